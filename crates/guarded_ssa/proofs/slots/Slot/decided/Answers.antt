use Rattle.std.proofs.Common.{◌==◌, ap, sym, ◌∙◌}
use Rattle.word_dag.proofs.Grown.{constant_at}
use Rattle.guarded_ssa.proofs.slots.Slot.decided.Goals as goal

pub returns-in-Constant : goal.returns-in-Constant
returns-in-Constant c = λ v.
    ap (λ n. n == 0) (sym (c.register-id.ensures.value v) ∙ (constant_at c.args.dag.now c.register-id.result.index c.in-Constant.bits _ _ c.nodes.ensures.ordered c.register-id.ensures.word.there c.node.ensures c.in-Constant.is).value_is v)
