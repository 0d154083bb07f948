use Rattle.word_dag.proofs.Grown.{constant_at}
use Rattle.mem_seq.proofs.memory.fixed.Goals as goal

pub returns : goal.returns
returns c = λ v. (constant_at c.args.dag.now c.args.pointer.index c.in-Constant.bits _ _ c.nodes.ensures.ordered c.requires.1.0 c.node.ensures c.in-Constant.is).value_is v
