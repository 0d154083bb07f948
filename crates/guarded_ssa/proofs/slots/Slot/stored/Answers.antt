use Rattle.guarded_ssa.proofs.Stays.{slot_grows}
use Rattle.guarded_ssa.proofs.Writing.{store_fits, store_guarded}
use Rattle.guarded_ssa.proofs.slots.Slot.stored.Goals as goal

pub written-requires-clause-slot : goal.written-requires-clause-slot
written-requires-clause-slot c = record { plan = c.requires.slot.plan; within = slot_grows _ _ c.stored.ensures.extends _ _ _ c.requires.slot.within }

pub written-requires-clause-block : goal.written-requires-clause-block
written-requires-clause-block c =
    store_fits c.stored.new.dag c.args.plan.now.code.now.registers c.args.plan.now.code.now.blocks c.args.operand c.args.block c.args.offset c.args.count c.in_ok-bytes.bytes.items c.deref.result.now _ c.requires.operand c.in_ok-bytes.ensures.made c.deref.ensures.value c.requires.block

pub returns-clause-guarded : goal.returns-clause-guarded
returns-clause-guarded c = λ v.
    store_guarded v c.args.dag.now c.stored.new.dag c.args.trees.now c.written.new.trees c.args.plan.now.code.now c.args.self c.in_ok-next.next c.args.block c.args.offset c.args.count c.args.operand c.register-id.result c.in_ok-bytes.bytes.items c.deref.result.now c.stored.ensures.extends c.requires.slot.within (c.register-id.ensures.value v)
    c.in_ok-bytes.ensures.made c.deref.ensures.value (c.in_ok-next.ensures.guarded v)
