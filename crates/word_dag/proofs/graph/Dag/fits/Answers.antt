use Rattle.std.proofs.Common.{sym, ◌∙◌}
use Rattle.word_dag.proofs.Conditions.{fits_from, fitting_from}
use Rattle.word_dag.proofs.graph.Dag.fits.Goals as goal

pub returns : goal.returns
returns c = (λ t. fitting_from _ _ (sym c.passes.ensures ∙ t), λ f. c.passes.ensures ∙ fits_from _ _ f)
