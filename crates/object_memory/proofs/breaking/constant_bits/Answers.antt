use Rattle.word_dag.proofs.Grown.{constant_at}
use Rattle.object_memory.proofs.breaking.constant_bits.Goals as goal

pub returns-in-Constant : goal.returns-in-Constant
returns-in-Constant c = λ v. (constant_at c.args.dag.now c.args.id.index c.in-Constant.bits _ _ c.nodes.ensures.ordered c.requires c.node.ensures c.in-Constant.is).value_is v
