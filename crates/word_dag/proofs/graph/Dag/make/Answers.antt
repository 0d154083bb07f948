use Rattle.word_dag.proofs.Conditions.{fits_from}
use Rattle.word_dag.proofs.Shared.{extends_kept, made_kept}
use Rattle.word_dag.proofs.graph.Dag.make.Goals as goal

pub chosen-requires : goal.chosen-requires
chosen-requires c = fits_from _ _ c.requires

pub reduced-reduced-requires : goal.reduced-reduced-requires
reduced-reduced-requires c = fits_from _ _ c.requires

pub returns-clause-extends : goal.returns-clause-extends
returns-clause-extends c = extends_kept _ _ _ c.kept.ensures.grows

pub returns-clause-made : goal.returns-clause-made
returns-clause-made c = made_kept c.kept.result _ _ _ _ c.reduced-reduced.ensures.same c.reduced-reduced.ensures.fits c.kept.ensures.ordered c.kept.ensures.grows c.kept.ensures.id
