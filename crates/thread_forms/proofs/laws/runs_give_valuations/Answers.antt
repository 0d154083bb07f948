use Rattle.std.proofs.Common.{ℕ}
use Rattle.thread_forms.proofs.Marking.{runs_give_valuations}
use Rattle.thread_forms.proofs.laws.runs_give_valuations.Goals as goal

pub returns : goal.returns
returns c = runs_give_valuations ℕ
