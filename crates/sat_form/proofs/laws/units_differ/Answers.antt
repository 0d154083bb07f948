use Rattle.sat_form.proofs.Units.{units-differ}
use Rattle.sat_form.proofs.laws.units_differ.Goals as goal

pub returns : goal.returns
returns c = units-differ
