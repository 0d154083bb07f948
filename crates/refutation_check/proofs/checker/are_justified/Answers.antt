use Rattle.std.proofs.Common.{◌≡◌, ◌<◌, ◌≤◌, List, length, get_or, sym, ◌∙◌, ap, subst, arith, refl}
use Rattle.std.proofs.lemmas.Bool.{true≢false}
use Rattle.sat_form.specs.declared.logs.Entry.{Entry}
use Rattle.refutation_check.proofs.Lookups.{length-added_before}
use Rattle.refutation_check.proofs.Steps.{length-added_next, length-deleted_next, justified_next, IsDerivation-at, IsDerivation-all}
use Rattle.refutation_check.proofs.checker.are_justified.Goals as goal
use Rattle.refutation_check.proofs.checker.are_justified.Goals.{in-Added, in-Deleted}

pub returns-then-not-is_justified-clause-answer : goal.returns-then-not-is_justified-clause-answer
returns-then-not-is_justified-clause-answer c =
    let log : List Entry = c.args.log.now in
    let place = c.loop-place.place in
    let e : Entry = c.entry-item.result in
    let within : place < length log = subst (λ (es : List Entry). place < length es) c.entries-entry-items.ensures.is c.loop-place-test.true in
    let read : e ≡ get_or log place e = c.entry-item.is ∙ ap (λ (es : List Entry). get_or es place e) c.entries-entry-items.ensures.is in (
      λ no_. absurd (true≢false (sym no_)),
      λ derives. absurd (true≢false (sym (c.is_justified.ensures.answer.1 (IsDerivation-at c.args.clauses.now log place e within read derives)) ∙ c.if-not-is_justified.true)),
    )

pub overflow_add-added : goal.overflow_add-added
overflow_add-added c = omega (arith, length-added_before c.loop-place.place c.args.log.now)

pub loop-place-preserved : goal.loop-place-preserved
loop-place-preserved c =
    let log : List Entry = c.args.log.now in
    let place = c.loop-place.place in
    let e : Entry = c.entry-item.result in
    let within : place < length log = subst (λ (es : List Entry). place < length es) c.entries-entry-items.ensures.is c.loop-place-test.true in
    let read : e ≡ get_or log place e = c.entry-item.is ∙ ap (λ (es : List Entry). get_or es place e) c.entries-entry-items.ensures.is in
    record {
      variables = c.is_justified.ensures.variables ∙ c.loop-place.invariant.variables;
      added = elim c.match-entry.branch [
        | in-Added w ↦ w.added-is ∙ length-added_next log place c.loop-place.added e _ _ within read w.in-Added.is c.loop-place.invariant.added
        | in-Deleted w ↦ w.added-is ∙ length-deleted_next log place c.loop-place.added _ e within read w.in-Deleted.is c.loop-place.invariant.added
      ];
      justified = justified_next c.args.clauses.now log place e within read c.loop-place.invariant.justified (c.is_justified.ensures.answer.0 c.if-not-is_justified.false);
    }

pub returns-clause-answer : goal.returns-clause-answer
returns-clause-answer c =
    let all : length c.args.log.now ≤ c.loop-place.place = subst (λ (es : List Entry). length es ≤ c.loop-place.place) c.entries-entry-items.ensures.is c.loop-place-test.false in
    (λ _. IsDerivation-all c.args.clauses.now c.args.log.now c.loop-place.place all c.loop-place.invariant.justified, λ _. refl)
