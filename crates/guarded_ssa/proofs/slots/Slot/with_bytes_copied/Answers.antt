use Rattle.std.proofs.Common.{◌∙◌, ap, length}
use Rattle.guarded_ssa.proofs.Writing.{within_by_size, copy_guarded}
use Rattle.guarded_ssa.proofs.slots.Slot.with_bytes_copied.Goals as goal

pub written-requires-clause-block : goal.written-requires-clause-block
written-requires-clause-block c = within_by_size _ _ _ c.args.count _ c.requires.into (ap length c.deref.ensures.value ∙ c.in_ok-bytes.ensures.size)

pub returns-clause-guarded : goal.returns-clause-guarded
returns-clause-guarded c = λ v.
    copy_guarded v c.args.dag.now c.args.trees.now c.written.new.trees c.args.plan.now.code.now c.args.self c.in_ok-next.next c.args.into.0 c.args.into.1 c.args.from.0 c.args.from.1 c.args.count c.in_ok-bytes.bytes.items c.deref.result.now c.deref.ensures.value (c.in_ok-bytes.ensures.made.values_are v) (c.in_ok-next.ensures.guarded v)
