use Rattle.rewritten_nodes.proofs.Sides.{conjuncts_at}
use Rattle.rewritten_nodes.proofs.folding.conjuncts.Goals as goal

pub returns-in-And : goal.returns-in-And
returns-in-And c = conjuncts_at c.args.dag.now c.args.id c.in-Binary.a c.in-Binary.b c.node.result c.in-Binary.operator c.nodes.ensures.ordered c.requires.there c.requires.bit c.node.ensures c.in-Binary.is c.in-And.is
