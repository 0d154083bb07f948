use Rattle.word_dag.proofs.Grown.{constant_at}
use Rattle.guarded_ssa.proofs.Merging.{never_guarded}
use Rattle.guarded_ssa.proofs.slots.Slot.is_never.Goals as goal

pub returns-in-Constant : goal.returns-in-Constant
returns-in-Constant c = λ zero v.
    never_guarded v c.args.dag.now c.args.trees.now c.args.plan.now.code.now c.args.self.now c.in-Constant.bits
    ((constant_at c.args.dag.now c.args.self.now.guard.index c.in-Constant.bits _ _ c.nodes.ensures.ordered c.requires.within.guard.there c.node.ensures c.in-Constant.is).value_is v) zero
