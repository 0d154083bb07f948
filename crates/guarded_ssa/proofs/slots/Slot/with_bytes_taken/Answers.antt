use Rattle.std.proofs.Common.{length, ap, ◌∙◌, arith}
use Rattle.word_dag.proofs.Grown.{extends_more}
use Rattle.guarded_ssa.proofs.Stays.{slot_grows}
use Rattle.guarded_ssa.proofs.Writing.{within_by_size}
use Rattle.guarded_ssa.proofs.SlotParts.{all_within, take_guarded}
use Rattle.guarded_ssa.proofs.slots.Slot.with_bytes_taken.Goals as goal

pub bytes-requires-clause-slot : goal.bytes-requires-clause-slot
bytes-requires-clause-slot c = record { plan = c.requires.slot.plan; within = slot_grows _ _ c.offset_of.ensures.extends _ _ _ c.requires.slot.within }

pub bytes-requires-clause-there : goal.bytes-requires-clause-there
bytes-requires-clause-there c = all_within c.args.plan.now.code.now.blocks c.args.from.0 c.args.from.1 c.requires.from

pub taken-requires-clause-size : goal.taken-requires-clause-size
taken-requires-clause-size c = omega (arith, ap length c.deref.ensures.value, c.in_ok-block.ensures.size)

pub written-requires-clause-slot : goal.written-requires-clause-slot
written-requires-clause-slot c = record {
  plan = c.requires.slot.plan;
  within = slot_grows _ _ (extends_more _ _ _ c.offset_of.ensures.extends c.taken.ensures.extends) _ _ _ c.requires.slot.within;
}

pub written-requires-clause-block : goal.written-requires-clause-block
written-requires-clause-block c = within_by_size _ _ _ c.args.count _ c.requires.into (ap length c.deref-2.ensures.value ∙ c.in_ok-new.ensures.size)

pub returns-clause-guarded : goal.returns-clause-guarded
returns-clause-guarded c = λ v.
    take_guarded v c.args.dag.now c.offset_of.new.dag c.taken.new.dag c.args.trees.now c.written.new.trees c.args.plan.now.code.now c.args.self c.in_ok-next.next c.offset_of.ensures.extends c.taken.ensures.extends (extends_more _ _ _ c.offset_of.ensures.extends c.taken.ensures.extends) c.requires.slot.within
    c.number-pointer.result c.in_ok-at.at c.args.offset (c.number-pointer.ensures.value v) c.in_ok-at.ensures.made c.args.into.0 c.args.into.1 c.args.from.0 c.args.from.1 c.args.count c.in_ok-block.block.items c.deref.result.now c.in_ok-new.new.items c.deref-2.result.now c.requires.from c.in_ok-block.ensures.made
    c.deref.ensures.value c.in_ok-new.ensures.made c.deref-2.ensures.value (c.in_ok-next.ensures.guarded v)
