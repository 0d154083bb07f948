use Rattle.sat_form.proofs.Refutations.{no_model-refuted}
use Rattle.sat_form.proofs.laws.no_model.Goals as goal

pub returns : goal.returns
returns c = no_model-refuted
