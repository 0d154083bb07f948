use Rattle.std.proofs.Common.{ℕ}
use Rattle.weave.proofs.Drawing.{words_are_inputs}
use Rattle.weave.proofs.laws.words_are_inputs.Goals as goal

pub returns : goal.returns
returns c = words_are_inputs ℕ
