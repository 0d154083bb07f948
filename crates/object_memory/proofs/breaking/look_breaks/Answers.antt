use Rattle.std.proofs.Common.{sym, ap, subst, ◌∙◌}
use Rattle.std.specs.Prelude.{All, ◌==◌}
use Rattle.std.proofs.lemmas.List.Elements.{All-nil}
use Rattle.actions.specs.Pointer.{object_of, offset_of}
use Rattle.actions.specs.Objects.{object_at}
use Rattle.word_dag.specs.Meaning.{value}
use Rattle.word_dag.proofs.Grown.{extends_more}
use Rattle.object_memory.specs.declared.breaking.Question.TheVariants.{Unknown, Ended}
use Rattle.object_memory.specs.Failings.{FailingIn, first_class, class_or, class_if}
use Rattle.object_memory.proofs.Pointed.{places_stay, hits_stay, test_is}
use Rattle.object_memory.proofs.Broken.{told_look, answered_at, answer_of}
use Rattle.object_memory.proofs.breaking.look_breaks.Goals as goal

pub note-requires-clause-breaks : goal.note-requires-clause-breaks
note-requires-clause-breaks c = subst (All (FailingIn c.zero_test.new.dag)) (sym c.new-breaks.ensures.items) (All-nil (FailingIn c.zero_test.new.dag))

pub note_answer-requires-clause-places : goal.note_answer-requires-clause-places
note_answer-requires-clause-places c = places_stay c.args.dag.now c.zero_test.new.dag c.args.places.now (extends_more c.args.dag.now c.object_of.new.dag c.zero_test.new.dag c.object_of.ensures.extends c.zero_test.ensures.extends) c.requires.places

pub note_answer-requires-clause-hits : goal.note_answer-requires-clause-hits
note_answer-requires-clause-hits c = hits_stay c.args.dag.now c.zero_test.new.dag _ c.args.hits.now (extends_more c.args.dag.now c.object_of.new.dag c.zero_test.new.dag c.object_of.ensures.extends c.zero_test.ensures.extends) c.requires.hits

pub note_answer-requires-2-clause-places : goal.note_answer-requires-2-clause-places
note_answer-requires-2-clause-places c =
    places_stay c.args.dag.now c.note_answer.new.dag c.args.places.now (extends_more c.args.dag.now c.object_of.new.dag c.note_answer.new.dag c.object_of.ensures.extends (extends_more c.object_of.new.dag c.zero_test.new.dag c.note_answer.new.dag c.zero_test.ensures.extends c.note_answer.ensures.extends)) c.requires.places

pub note_answer-requires-2-clause-hits : goal.note_answer-requires-2-clause-hits
note_answer-requires-2-clause-hits c =
    hits_stay c.args.dag.now c.note_answer.new.dag _ c.args.hits.now (extends_more c.args.dag.now c.object_of.new.dag c.note_answer.new.dag c.object_of.ensures.extends (extends_more c.object_of.new.dag c.zero_test.new.dag c.note_answer.new.dag c.zero_test.ensures.extends c.note_answer.ensures.extends)) c.requires.hits

pub returns-clause-first : goal.returns-clause-first
returns-clause-first c = λ v objects are found.
    let x2 = extends_more c.args.dag.now c.object_of.new.dag c.zero_test.new.dag c.object_of.ensures.extends c.zero_test.ensures.extends in
    let x3 = extends_more c.args.dag.now c.zero_test.new.dag c.note_answer.new.dag x2 c.note_answer.ensures.extends in
    let p = value v c.args.dag.now c.args.p in
    let nothing = ap (first_class v c.zero_test.new.dag) c.new-breaks.ensures.items in
    let null = test_is c.zero_test.new.dag c.in_ok-none.none _ c.in_ok-none.ensures.made v ∙ ap (λ n. n == 0) (c.in_ok-object.ensures.made.value_is v) in
    let unknown = answered_at Unknown v c.args.dag.now c.zero_test.new.dag c.args.places.now c.args.hits.now p objects x2 c.requires.places c.requires.hits are found in
    let ended = answered_at Ended v c.args.dag.now c.note_answer.new.dag c.args.places.now c.args.hits.now p objects x3 c.requires.places c.requires.hits are found in
    c.in_ok-note_answer-2.ensures.first v
    ∙ (λ i. class_or (c.in_ok-note_answer.ensures.first v i) (class_if (ended i) c.told-ended.result))
    ∙ ap (λ o. class_or o (class_if (answer_of Ended (offset_of p) (object_at objects (object_of p))) c.told-ended.result))
    (λ i. class_or (c.in_ok-note.ensures.first v i) (class_if (unknown i) c.told-unknown.result))
    ∙ (λ i. class_or (class_or (class_or (nothing i) (class_if (null i) c.told.result)) (class_if (answer_of Unknown (offset_of p) (object_at objects (object_of p))) c.told-unknown.result)) (class_if (answer_of Ended (offset_of p) (object_at objects (object_of p))) c.told-ended.result))
    ∙ told_look c.args.subscript p (object_at objects (object_of p)) c.told.result c.told-unknown.result c.told-ended.result c.told.ensures c.told-unknown.ensures c.told-ended.ensures
