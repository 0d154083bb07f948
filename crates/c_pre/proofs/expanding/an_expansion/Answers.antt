use Rattle.c_pre.proofs.Finite.{expanded_somehow}
use Rattle.c_pre.proofs.expanding.an_expansion.Goals as goal

pub returns : goal.returns
returns c = λ bytes tokens own cut. expanded_somehow bytes tokens own cut
