use Rattle.std.proofs.Common.{ℕ}
use Rattle.thread_forms.proofs.Counting.{candidates_are_fit}
use Rattle.thread_forms.proofs.laws.candidates_are_fit.Goals as goal

pub returns : goal.returns
returns c = candidates_are_fit ℕ
