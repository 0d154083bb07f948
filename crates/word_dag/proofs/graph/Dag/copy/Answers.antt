use Rattle.word_dag.proofs.Copies.{copied_by}
use Rattle.word_dag.proofs.Shared.{extends_kept, grows_put}
use Rattle.word_dag.proofs.graph.Dag.copy.Goals as goal

pub returns-clause-extends : goal.returns-clause-extends
returns-clause-extends c = extends_kept _ _ _ (grows_put c.put.result _ _ _ c.put.ensures.ok c.put.ensures.err)

pub returns-clause-copied : goal.returns-clause-copied
returns-clause-copied c =
    copied_by c.args.self.now c.put.new.self c.args.id c.reduced-copy.result c.in_ok-put.field-0 c.nodes.ensures.ordered c.put.ensures.ordered c.requires c.reduced-copy.ensures.same c.reduced-copy.ensures.fits c.in_ok-put.ensures.ok c.in_ok-put.ensures.id
