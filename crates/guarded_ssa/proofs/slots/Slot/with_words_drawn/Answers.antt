use Rattle.std.proofs.Common.{length, ap, sym, ◌∙◌}
use Rattle.word_dag.proofs.Grown.{extends_more}
use Rattle.guarded_ssa.proofs.Stays.{slot_grows}
use Rattle.guarded_ssa.proofs.Writing.{within_by_size}
use Rattle.guarded_ssa.proofs.SlotParts.{drawn_guarded}
use Rattle.guarded_ssa.proofs.slots.Slot.with_words_drawn.Goals as goal

pub bytes-requires-clause-slot : goal.bytes-requires-clause-slot
bytes-requires-clause-slot c = record { plan = c.requires.slot.plan; within = slot_grows _ _ c.bytes_of_words.ensures.extends _ _ _ c.requires.slot.within }

pub first_of-requires-clause-same : goal.first_of-requires-clause-same
first_of-requires-clause-same c = ap length c.deref.ensures.value ∙ c.in_ok-new.ensures.size ∙ sym (ap length c.deref-2.ensures.value ∙ c.in_ok-old.ensures.size)

pub written-requires-clause-slot : goal.written-requires-clause-slot
written-requires-clause-slot c = record {
  plan = c.requires.slot.plan;
  within = slot_grows _ _ (extends_more _ _ _ c.bytes_of_words.ensures.extends c.first_of.ensures.extends) _ _ _ c.requires.slot.within;
}

pub written-requires-clause-block : goal.written-requires-clause-block
written-requires-clause-block c = within_by_size _ _ _ c.args.most _ c.requires.block (ap length c.deref-3.ensures.value ∙ c.in_ok-bytes.ensures.length ∙ ap length c.deref-2.ensures.value ∙ c.in_ok-old.ensures.size)

pub returns-clause-guarded : goal.returns-clause-guarded
returns-clause-guarded c = λ v.
    drawn_guarded v c.args.dag.now c.bytes_of_words.new.dag c.first_of.new.dag c.args.trees.now c.written.new.trees c.args.plan.now.code.now c.args.self c.in_ok-next.next c.bytes_of_words.ensures.extends (extends_more _ _ _ c.bytes_of_words.ensures.extends c.first_of.ensures.extends) c.requires.slot.within
    c.args.block c.args.most c.args.count c.args.words.now c.in_ok-new.new.items c.deref.result.now c.in_ok-old.old.items c.deref-2.result.now c.in_ok-bytes.bytes.items c.deref-3.result.now (c.bytes_of_words.ensures.extends.value_stays v c.args.count c.requires.count.there) c.in_ok-new.ensures.size c.in_ok-new.ensures.made
    c.deref.ensures.value c.in_ok-old.ensures.made c.deref-2.ensures.value c.in_ok-bytes.ensures.made c.deref-3.ensures.value (c.in_ok-next.ensures.guarded v)
