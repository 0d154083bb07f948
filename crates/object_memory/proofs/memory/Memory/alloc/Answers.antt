use Rattle.std.proofs.Common.{ap, refl, arith, length, ◌∙◌}
use Rattle.std.specs.Prelude.{min}
use Rattle.word_dag.specs.Meaning.{value, holds}
use Rattle.word_dag.proofs.Grown.{extends_more}
use Rattle.object_memory.proofs.Stood.{alloc_stands, alloc_within, made_within, made_count}
use Rattle.object_memory.proofs.memory.Memory.alloc.Goals as goal

pub returns-clause-within : goal.returns-clause-within
returns-clause-within c =
    alloc_within c.args.dag.now c.chosen.new.dag c.args.self.now _ _ c.args.guard c.requires.within (extends_more c.args.dag.now c.next_number.new.dag c.chosen.new.dag c.next_number.ensures.extends (extends_more c.next_number.new.dag c.lesser.new.dag c.chosen.new.dag c.lesser.ensures.extends (extends_more c.lesser.new.dag c.constant_test.new.dag c.chosen.new.dag c.constant_test.ensures.extends c.chosen.ensures.extends)))
    (made_within c.args.dag.now c.next_number.new.dag c.lesser.new.dag c.constant_test.new.dag c.chosen.new.dag _ (λ v. value v c.next_number.new.dag c.args.size) c.args.bytes.now c.next_number.ensures.extends c.lesser.ensures.extends c.constant_test.ensures.extends c.chosen.ensures.extends c.requires.guard (record { there = c.in_ok-number.ensures.made.there; width_is = c.in_ok-number.ensures.made.width_is }) c.in_ok-least.ensures.made c.in_ok-live.ensures.made c.requires.bytes (c.in_ok-block.ensures.items_if_clones_equal (λ y h e. e)) (omega arith))
    c.in_ok-push.ensures.items (omega arith) (record { there = c.in_ok-count.ensures.made.there; width_is = c.in_ok-count.ensures.made.width_is ∙ (extends_more c.next_number.new.dag c.lesser.new.dag c.constant_test.new.dag c.lesser.ensures.extends c.constant_test.ensures.extends).width_stays c.in_ok-number.number c.in_ok-number.ensures.made.there ∙ c.in_ok-number.ensures.made.width_is }) (made_count c.args.dag.now c.next_number.new.dag c.constant_test.new.dag c.chosen.new.dag c.args.self.now c.in_ok-number.number c.in_ok-count.count c.args.guard c.requires.within c.next_number.ensures.extends (extends_more c.next_number.new.dag c.lesser.new.dag c.constant_test.new.dag c.lesser.ensures.extends c.constant_test.ensures.extends) c.requires.guard (record { there = c.in_ok-number.ensures.made.there; width_is = c.in_ok-number.ensures.made.width_is }) c.in_ok-number.ensures.value (λ u. c.in_ok-count.ensures.made.value_is u) (omega arith))

pub returns-clause-number : goal.returns-clause-number
returns-clause-number c = λ v objects stands guard_is.
    (extends_more c.next_number.new.dag c.lesser.new.dag c.chosen.new.dag c.lesser.ensures.extends (extends_more c.lesser.new.dag c.constant_test.new.dag c.chosen.new.dag c.constant_test.ensures.extends c.chosen.ensures.extends)).value_stays v c.in_ok-number.number c.in_ok-number.ensures.made.there ∙ c.in_ok-number.ensures.value v (omega (arith, c.requires.within.counted v)) ∙ omega (arith, stands.count_is)

pub returns-clause-stands : goal.returns-clause-stands
returns-clause-stands c = λ v objects stands.
    alloc_stands v c.args.dag.now c.chosen.new.dag c.args.self.now _ _ c.in_ok-number.number c.args.bytes.now (value v c.args.dag.now c.args.size) c.args.readonly c.args.heap (holds (value v c.args.dag.now c.args.guard)) objects c.nodes.ensures.ordered c.requires.within c.requires.bytes (omega arith) (extends_more c.args.dag.now c.next_number.new.dag c.chosen.new.dag c.next_number.ensures.extends (extends_more c.next_number.new.dag c.lesser.new.dag c.chosen.new.dag c.lesser.ensures.extends (extends_more c.lesser.new.dag c.constant_test.new.dag c.chosen.new.dag c.constant_test.ensures.extends c.chosen.ensures.extends))) stands c.in_ok-push.ensures.items
    (ap holds ((extends_more c.args.dag.now c.next_number.new.dag c.chosen.new.dag c.next_number.ensures.extends (extends_more c.next_number.new.dag c.lesser.new.dag c.chosen.new.dag c.lesser.ensures.extends (extends_more c.lesser.new.dag c.constant_test.new.dag c.chosen.new.dag c.constant_test.ensures.extends c.chosen.ensures.extends))).value_stays v c.args.guard c.requires.guard.there))
    ((extends_more c.next_number.new.dag c.lesser.new.dag c.chosen.new.dag c.lesser.ensures.extends (extends_more c.lesser.new.dag c.constant_test.new.dag c.chosen.new.dag c.constant_test.ensures.extends c.chosen.ensures.extends)).value_stays v c.in_ok-number.number c.in_ok-number.ensures.made.there ∙ c.in_ok-number.ensures.value v (omega (arith, c.requires.within.counted v)))
    ((extends_more c.lesser.new.dag c.constant_test.new.dag c.chosen.new.dag c.constant_test.ensures.extends c.chosen.ensures.extends).value_stays v c.in_ok-least.least c.in_ok-least.ensures.made.there ∙ c.in_ok-least.ensures.made.value_is v ∙ ap (λ n. min n (length c.args.bytes.now)) (c.next_number.ensures.extends.value_stays v c.args.size c.requires.size.there))
    (c.chosen.ensures.extends.value_stays v c.in_ok-live.live c.in_ok-live.ensures.made.there ∙ c.in_ok-live.ensures.made.value_is v) refl refl (c.in_ok-block.ensures.items_if_clones_equal (λ y h e. e)) ((made_count c.args.dag.now c.next_number.new.dag c.constant_test.new.dag c.chosen.new.dag c.args.self.now c.in_ok-number.number c.in_ok-count.count c.args.guard c.requires.within c.next_number.ensures.extends (extends_more c.next_number.new.dag c.lesser.new.dag c.constant_test.new.dag c.lesser.ensures.extends c.constant_test.ensures.extends) c.requires.guard (record { there = c.in_ok-number.ensures.made.there; width_is = c.in_ok-number.ensures.made.width_is }) c.in_ok-number.ensures.value (λ u. c.in_ok-count.ensures.made.value_is u) (omega arith)) v)
