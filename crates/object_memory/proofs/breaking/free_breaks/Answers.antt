use Rattle.std.proofs.Common.{sym, ap, subst, ◌∙◌}
use Rattle.std.specs.Prelude.{All, ◌&&◌}
use Rattle.std.proofs.lemmas.List.Elements.{All-nil}
use Rattle.actions.specs.Pointer.{object_of}
use Rattle.actions.specs.Objects.{object_at}
use Rattle.words.specs.declared.check.Class.TheVariants as class
use Rattle.word_dag.specs.Meaning.{value, holds}
use Rattle.object_memory.specs.declared.breaking.Question.TheVariants.{Kept}
use Rattle.object_memory.specs.Failings.{FailingIn, first_class, class_or, class_if}
use Rattle.object_memory.proofs.Pointed.{places_stay, hits_stay, test_is}
use Rattle.object_memory.proofs.Broken.{told_free, answered_at}
use Rattle.object_memory.proofs.breaking.free_breaks.Goals as goal

pub answer-requires-clause-places : goal.answer-requires-clause-places
answer-requires-clause-places c = places_stay c.args.dag.now c.nonzero_test.new.dag c.args.places.now c.nonzero_test.ensures.extends c.requires.places

pub answer-requires-clause-hits : goal.answer-requires-clause-hits
answer-requires-clause-hits c = hits_stay c.args.dag.now c.nonzero_test.new.dag _ c.args.hits.now c.nonzero_test.ensures.extends c.requires.hits

pub note-requires-clause-breaks : goal.note-requires-clause-breaks
note-requires-clause-breaks c = subst (All (FailingIn c.both.new.dag)) (sym c.new-breaks.ensures.items) (All-nil (FailingIn c.both.new.dag))

pub returns-clause-first : goal.returns-clause-first
returns-clause-first c = λ v objects are found.
    let p = value v c.args.dag.now c.args.p in
    let nothing = ap (first_class v c.both.new.dag) c.new-breaks.ensures.items in
    let given = ap holds (c.answer.ensures.extends.value_stays v c.in_ok-given.given c.in_ok-given.ensures.made.there) ∙ test_is c.nonzero_test.new.dag c.in_ok-given.given _ c.in_ok-given.ensures.made v in
    let kept = test_is c.answer.new.dag c.in_ok-kept.kept _ c.in_ok-kept.ensures.made v ∙ answered_at Kept v c.args.dag.now c.nonzero_test.new.dag c.args.places.now c.args.hits.now p objects c.nonzero_test.ensures.extends c.requires.places c.requires.hits are found in
    let test = test_is c.both.new.dag c.in_ok-test.test _ c.in_ok-test.ensures.made v ∙ (λ i. given i && kept i) in
    c.in_ok-note.ensures.first v ∙ (λ i. class_or (nothing i) (class_if (test i) class.Free)) ∙ told_free p (object_at objects (object_of p))
