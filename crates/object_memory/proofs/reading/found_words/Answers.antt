use Rattle.std.proofs.Common.{map, ap, sym, arith, refl, ◌∙◌}
use Rattle.word_dag.specs.Meaning.{value, width}
use Rattle.object_memory.proofs.ReadWords.{finding_first, finding_more, finding_all, nothing_read, last_of, empty_of, words_alike, both_lists}
use Rattle.object_memory.proofs.reading.found_words.Goals as goal

pub returns-then-is_empty-clause-values : goal.returns-then-is_empty-clause-values
returns-then-is_empty-clause-values c = λ v guard_is. nothing_read v c.args.dag.now _ c.args.hits.now c.args.count _ (empty_of _ (sym c.if-is_empty.true ∙ c.is_empty.ensures))

pub chosen_all-requires-clause-widths : goal.chosen_all-requires-clause-widths
chosen_all-requires-clause-widths c =
    words_alike c.reading.dag c.place_words-in-reading.new.dag c.args.count c.reading.words.items c.in_ok-here.here.items c.deref.result.now c.deref-in-reading.result.now c.place_words-in-reading.ensures.extends c.reading.invariant.worded c.in_ok-here.ensures.words c.deref.ensures.value c.deref-in-reading.ensures.value

pub reading-init : goal.reading-init
reading-init c =
    finding_first c.args.dag.now c.place_words.new.dag c.args.guard c.args.places.now c.args.hits.now _ c.index-places-last.result c.index-places-last.result c.args.count c.in_ok-words.words.items _ c.requires.hits (last_of _ (sym c.if-is_empty.false ∙ c.is_empty.ensures)) c.index-places-last.is c.place_words.ensures.extends
    c.in_ok-words.ensures.words c.in_ok-words.ensures.values

pub reading-preserved : goal.reading-preserved
reading-preserved c =
    finding_more c.args.dag.now c.reading.dag c.place_words-in-reading.new.dag c.chosen_all.new.dag c.args.guard c.args.places.now c.args.hits.now _ c.index-places-hit.result c.index-places-hit.result c.args.count c.reading.words.items c.in_ok-here.here.items c.in_ok-words-2.words.items c.reading.left _ c.requires.places
    c.requires.hits c.requires.guard c.reading.invariant c.reading-test.true refl c.index-places-hit.is c.place_words-in-reading.ensures.extends c.chosen_all.ensures.extends c.in_ok-here.ensures.words c.in_ok-here.ensures.values c.in_ok-words-2.ensures.there
    (c.in_ok-words-2.ensures.widths ∙ ap (map (width c.place_words-in-reading.new.dag)) c.deref.ensures.value)
    (λ v. c.in_ok-words-2.ensures.values v ∙ both_lists _ _ _ _ _ (ap (map (value v c.place_words-in-reading.new.dag)) c.deref.ensures.value) (ap (map (value v c.place_words-in-reading.new.dag)) c.deref-in-reading.ensures.value))

pub returns-clause-values : goal.returns-clause-values
returns-clause-values c = finding_all c.args.dag.now c.reading.dag c.args.guard c.args.places.now c.args.hits.now c.args.count c.reading.words.items c.reading.left (omega arith) c.reading.invariant
