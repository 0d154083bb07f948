use Rattle.c_pre.proofs.Once.{expansion_once}
use Rattle.c_pre.proofs.expanding.one_expansion.Goals as goal

pub returns : goal.returns
returns c = λ bytes tokens a b h k. expansion_once bytes tokens a b h k
