use Rattle.lowered_code.proofs.CodeFits.{codes_fit}
use Rattle.lowered_code.proofs.laws.lowered_code_fits.Goals as goal

pub returns : goal.returns
returns c = codes_fit
