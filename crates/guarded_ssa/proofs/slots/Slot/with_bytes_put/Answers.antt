use Rattle.std.proofs.Common.{length, ap, ◌∙◌}
use Rattle.word_dag.proofs.Grown.{extends_more}
use Rattle.guarded_ssa.proofs.Stays.{slot_grows}
use Rattle.guarded_ssa.proofs.Writing.{within_by_size}
use Rattle.guarded_ssa.proofs.SlotParts.{all_within, put_guarded_within}
use Rattle.guarded_ssa.proofs.slots.Slot.with_bytes_put.Goals as goal

pub bytes-requires-clause-slot : goal.bytes-requires-clause-slot
bytes-requires-clause-slot c = record { plan = c.requires.slot.plan; within = slot_grows _ _ c.offset_of.ensures.extends _ _ _ c.requires.slot.within }

pub bytes-requires-clause-there : goal.bytes-requires-clause-there
bytes-requires-clause-there c = all_within c.args.plan.now.code.now.blocks c.args.into.0 c.args.into.1 c.requires.into

pub bytes-requires-2-clause-slot : goal.bytes-requires-2-clause-slot
bytes-requires-2-clause-slot c = record { plan = c.requires.slot.plan; within = slot_grows _ _ c.offset_of.ensures.extends _ _ _ c.requires.slot.within }

pub written-requires-clause-slot : goal.written-requires-clause-slot
written-requires-clause-slot c = record {
  plan = c.requires.slot.plan;
  within = slot_grows _ _ (extends_more _ _ _ c.offset_of.ensures.extends c.put.ensures.extends) _ _ _ c.requires.slot.within;
}

pub written-requires-clause-block : goal.written-requires-clause-block
written-requires-clause-block c = within_by_size _ _ _ c.args.into.1 _ (all_within c.args.plan.now.code.now.blocks c.args.into.0 c.args.into.1 c.requires.into) (ap length c.deref-3.ensures.value ∙ c.in_ok-whole.ensures.length ∙ ap length c.deref.ensures.value ∙ c.in_ok-block.ensures.size)

pub returns-clause-guarded : goal.returns-clause-guarded
returns-clause-guarded c = λ v.
    put_guarded_within v c.args.dag.now c.offset_of.new.dag c.put.new.dag c.args.trees.now c.written.new.trees c.args.plan.now.code.now c.args.self c.in_ok-next.next c.offset_of.ensures.extends c.put.ensures.extends (extends_more _ _ _ c.offset_of.ensures.extends c.put.ensures.extends) c.requires.slot.within
    c.number-pointer.result c.in_ok-at.at c.args.offset (c.number-pointer.ensures.value v) c.in_ok-at.ensures.made c.args.into.0 c.args.from.0 c.args.from.1 c.args.into.1 c.args.count c.in_ok-block.block.items c.deref.result.now c.in_ok-new.new.items c.deref-2.result.now c.in_ok-whole.whole.items c.deref-3.result.now c.requires.into
    c.in_ok-block.ensures.made c.deref.ensures.value c.in_ok-new.ensures.made c.deref-2.ensures.value c.in_ok-whole.ensures.made c.deref-3.ensures.value (c.in_ok-next.ensures.guarded v)
