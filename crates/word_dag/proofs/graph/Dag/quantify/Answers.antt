use Rattle.std.proofs.lemmas.List.{get_or_default}
use Rattle.word_dag.proofs.Copies.{copies_more}
use Rattle.word_dag.proofs.graph.Dag.quantify.Goals as goal

pub loop-id-preserved : goal.loop-id-preserved
loop-id-preserved c =
    copies_more c.args.self.now c.loop-id.self c.copy.new.self c.args.ids.now c.loop-id.id-index _ c.requires c.loop-id-test.true (get_or_default c.args.ids.now c.loop-id.id-index _ _ c.loop-id-test.true) c.loop-id.invariant c.copy.ensures.extends c.in_ok-copy.ensures.copied
