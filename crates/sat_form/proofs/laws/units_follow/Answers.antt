use Rattle.sat_form.proofs.Chains.{IsDerivation-allowed}
use Rattle.sat_form.proofs.laws.units_follow.Goals as goal

pub returns : goal.returns
returns c = IsDerivation-allowed
