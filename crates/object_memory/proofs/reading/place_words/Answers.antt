use Rattle.std.proofs.Common.{◌≡◌, ◌≤◌, ◌+◌, ℕ, List, length, map, take, drop, ap, subst, arith, ◌∙◌}
use Rattle.word_dag.specs.declared.nodes.Id.{Id}
use Rattle.word_dag.specs.Meaning.{value}
use Rattle.object_memory.specs.Words.{bytes_of_words}
use Rattle.object_memory.proofs.ReadWords.{place_found, too_long}
use Rattle.object_memory.proofs.reading.place_words.Goals as goal

pub returns-then-count-len-clause-values : goal.returns-then-count-len-clause-values
returns-then-count-len-clause-values c = λ v guard_is inside. too_long c.args.dag.now c.args.place.now c.args.offset c.args.count c.requires.place (omega (arith, c.if-count-len.true, c.len.ensures)) v inside

pub returns-clause-values : goal.returns-clause-values
returns-clause-values c =
    place_found c.args.dag.now c.tested_offset.new.dag c.words_at.new.dag c.args.guard c.args.place.now c.args.offset c.args.count c.in_ok-block.block.items c.in_ok-words.words.items c.in_ok-tested.tested c.requires.place c.requires.guard c.requires.offset c.tested_offset.ensures.extends c.in_ok-block.ensures.bytes
    (c.in_ok-block.ensures.size ∙ ap length c.deref.ensures.value) (λ v guard_is. c.in_ok-block.ensures.values v guard_is ∙ ap (map (value v c.args.dag.now)) c.deref.ensures.value) c.in_ok-tested.ensures.offset
    (subst (λ (ks : List Id). (v : ℕ → ℕ) → value v c.tested_offset.new.dag c.in_ok-tested.tested.offset + c.args.count ≤ length ks → bytes_of_words c.args.count (map (value v c.words_at.new.dag) c.in_ok-words.words.items) ≡ take c.args.count (drop (value v c.tested_offset.new.dag c.in_ok-tested.tested.offset) (map (value v c.tested_offset.new.dag) ks)))
    c.deref-2.ensures.value c.in_ok-words.ensures.values)
