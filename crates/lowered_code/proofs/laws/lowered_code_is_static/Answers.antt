use Rattle.lowered_code.proofs.StaticCode.{codes_static}
use Rattle.lowered_code.proofs.laws.lowered_code_is_static.Goals as goal

pub returns : goal.returns
returns c = codes_static
