use Rattle.value_nodes.proofs.Blocks.{cut_value}
use Rattle.value_nodes.proofs.bytes.is_cut.Goals as goal

pub returns-else-bit-low : goal.returns-else-bit-low
returns-else-bit-low c = λ wide v.
    cut_value v c.args.dag.now c.args.i c.in-Cut.a c.args.word _ c.in-Cut.bit c.in-Cut.width c.args.low c.nodes.ensures.ordered c.requires c.node.ensures c.in-Cut.is c.if-a-word.false c.if-bit-low.false wide
