use Rattle.value_nodes.proofs.Blocks.{whole_word}
use Rattle.value_nodes.proofs.bytes.bits_of.Goals as goal

pub returns-then-width-clause-made : goal.returns-then-width-clause-made
returns-then-width-clause-made c = whole_word c.args.dag.now c.args.word c.args.low c.args.width _ c.nodes.ensures.ordered c.requires.there c.width.ensures.is c.if-width.true c.requires.within
