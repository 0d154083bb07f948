use Rattle.std.proofs.Common.{◌≡◌, ◌≤◌, ℕ, ◌<◌, inl, inr, true, false, List, [], ◌∷◌, ◌++◌, length, reverse, refl, sym, ap, ◌∙◌, subst, arith}
use Rattle.std.specs.Prelude.{IsSome}
use Rattle.std.proofs.lemmas.Bool.{cases_lt, true≢false}
use Rattle.sat_form.specs.Satisfaction.{Literal}
use Rattle.cdcl_core.specs.declared.trail.Step.{Step}
use Rattle.cdcl_core.specs.declared.analysis.Analysis.{Analysis}
use Rattle.cdcl_core.specs.Steps.{known_value}
use Rattle.cdcl_core.specs.Learning.{IsLearned}
use Rattle.cdcl_core.specs.Cuts.{IsOn, IsCut, IsClauseOf}
use Rattle.cdcl_core.proofs.Places.{slice_get-one}
use Rattle.cdcl_core.proofs.Known.{value_of-step}
use Rattle.cdcl_core.proofs.Tracing.{IsReached-begun, IsCut-begun, marked_at_low, IsLearned-at_end, IsRefuted-at_end}
use Rattle.cdcl_core.proofs.analysis.Analysis.lesson.Goals as goal

pub mark_clause-requires-clause-reached : goal.mark_clause-requires-clause-reached
mark_clause-requires-clause-reached c =
    let p = c.begin.ensures.places in
    IsReached-begun c.args.trail.now.steps c.begin.new.self c.args.decisions.now c.len-count.result c.ends_of-first.result.0 c.ends_of-first.result.1
    c.requires.places c.len-count.ensures.is c.ends_of-first.ensures p.0 p.1 p.2 p.3 p.5 c.begin.ensures.none

pub resolve_newest-requires-clause-cut : goal.resolve_newest-requires-clause-cut
resolve_newest-requires-clause-cut c =
    let numbers : c.args.conflict ∷ [] ≡ reverse c.push.new.self.items =
    sym (ap reverse (c.in_ok-push.ensures.items ∙ ap (λ xs. xs ++ c.args.conflict ∷ []) c.new-numbers.ensures.items)) in
    subst (IsCut c.args.clauses.now c.args.trail.now.steps c.mark_clause.new.self.high c.mark_clause.new.self.marked.items) numbers
    (IsCut-begun c.args.clauses.now c.args.trail.now.steps c.args.conflict c.len-count.result c.mark_clause.new.self.high c.at.result.now c.begin.new.self.marked.items c.mark_clause.new.self.marked.items
    c.requires.conflict (λ d found. slice_get-one c.args.clauses.now c.args.conflict c.at.result.now d c.at.ensures found)
    c.len-count.ensures.is (c.in_ok-mark_clause.ensures.reaches.high ∙ c.begin.ensures.places.3) c.begin.ensures.none c.in_ok-mark_clause.ensures.marks)

pub take_clause-requires-clause-first : goal.take_clause-requires-clause-first
take_clause-requires-clause-first c =
    subst (IsOn c.resolve_first.new.self.marked.items) (sym c.variable-variable.ensures.is)
    (marked_at_low c.args.trail.now.variables c.args.trail.now.steps c.resolve_first.new.self c.in-Some.step c.requires.fresh c.in_ok-resolve_first.ensures.reached c.in-Some.ensures.step)

pub take_clause-requires-clause-known : goal.take_clause-requires-clause-known
take_clause-requires-clause-known c =
    let known = value_of-step c.args.trail.now.variables c.resolve_first.new.self.low c.args.trail.now.steps c.in-Some.step c.requires.fresh c.in-Some.ensures.step in
    subst (λ v. IsSome (known_value c.args.trail.now.steps v)) (sym c.variable-variable.ensures.is) (subst IsSome (sym known.value) refl)

pub returns-in_ok-clause-in-Some-clause-lesson : goal.returns-in_ok-clause-in-Some-clause-lesson
returns-in_ok-clause-in-Some-clause-lesson c =
    let n : ℕ = c.args.trail.now.variables in
    let clauses : List (List Literal) = c.args.clauses.now in
    let steps : List Step = c.args.trail.now.steps in
    let a : Analysis = c.resolve_first.new.self in
    let s : Step = c.in-Some.step in
    let first : ℕ = c.ends_of-first.result.0 in
    let newest : ℕ = c.ends_of-first.result.1 in
    let numbers : List ℕ = c.from_numbers-hints.result in
    let named : numbers ≡ reverse c.resolve_first.new.numbers.items = c.from_numbers-hints.ensures ∙ c.reverse.ensures.items in
    let is_first : a.first ≡ first =
    c.in_ok-resolve_first.ensures.places.0 ∙ c.in_ok-minimise.ensures.places.0 ∙ c.in_ok-resolve_newest.ensures.places.0 ∙ c.in_ok-mark_clause.ensures.reaches.first ∙ c.begin.ensures.places.0 in
    let is_newest : a.newest ≡ newest =
    c.in_ok-resolve_first.ensures.places.1 ∙ c.in_ok-minimise.ensures.places.1 ∙ c.in_ok-resolve_newest.ensures.places.1 ∙ c.in_ok-mark_clause.ensures.reaches.newest ∙ c.begin.ensures.places.1 in
    subst (λ (l : Literal). IsLearned n clauses steps c.in_ok-clause-in-Some.clause l numbers) (sym c.inverse.ensures)
    (IsLearned-at_end n clauses steps c.args.decisions.now c.len-count.result first newest a numbers s c.in_ok-clause-in-Some.clause
    c.requires.fresh c.requires.settled c.requires.places c.len-count.ensures.is c.ends_of-first.ensures is_first is_newest
    c.in_ok-resolve_first.ensures.reached c.in_ok-resolve_first.ensures.single c.in_ok-resolve_first.ensures.none
    (subst (IsCut clauses steps a.top a.marked.items) (sym named) c.in_ok-resolve_first.ensures.cut) c.in-Some.ensures.step c.in_ok-resolve_first.ensures.clear.size
    (subst (λ v. IsClauseOf steps a.marked.items v c.in_ok-clause-in-Some.clause) c.variable-variable.ensures.is c.in_ok-clause-in-Some.ensures.clause))

past_end : (place count : ℕ) → (place < count → false ≡ true) → count ≤ place
past_end place count none = elim (cases_lt place count) [ inl below ↦ absurd (true≢false (sym (none below))) | inr past ↦ past ]

pub returns-in-None-clause-lesson : goal.returns-in-None-clause-lesson
returns-in-None-clause-lesson c =
    let n : ℕ = c.args.trail.now.variables in
    let clauses : List (List Literal) = c.args.clauses.now in
    let steps : List Step = c.args.trail.now.steps in
    let a : Analysis = c.resolve_first.new.self in
    let b : Analysis = c.mark_clause.new.self in
    let first : ℕ = c.ends_of-first.result.0 in
    let newest : ℕ = c.ends_of-first.result.1 in
    let numbers : List ℕ = c.from_numbers-hints.result in
    let named : numbers ≡ reverse c.resolve_first.new.numbers.items = c.from_numbers-hints.ensures ∙ c.reverse.ensures.items in
    let is_first : a.first ≡ first =
    c.in_ok-resolve_first.ensures.places.0 ∙ c.in_ok-minimise.ensures.places.0 ∙ c.in_ok-resolve_newest.ensures.places.0 ∙ c.in_ok-mark_clause.ensures.reaches.first ∙ c.begin.ensures.places.0 in
    let b_newest : b.newest ≡ newest = c.in_ok-mark_clause.ensures.reaches.newest ∙ c.begin.ensures.places.1 in
    let is_newest : a.newest ≡ newest = c.in_ok-resolve_first.ensures.places.1 ∙ c.in_ok-minimise.ensures.places.1 ∙ c.in_ok-resolve_newest.ensures.places.1 ∙ b_newest in
    IsRefuted-at_end n clauses steps c.args.decisions.now c.len-count.result first newest a b numbers c.args.conflict c.at.result.now c.begin.new.self.marked.items
    c.requires.fresh c.requires.settled c.requires.places c.len-count.ensures.is c.ends_of-first.ensures is_first is_newest
    c.in_ok-resolve_first.ensures.reached c.in_ok-resolve_first.ensures.single c.in_ok-resolve_first.ensures.none
    (subst (IsCut clauses steps a.top a.marked.items) (sym named) c.in_ok-resolve_first.ensures.cut)
    c.requires.conflict (λ d found. slice_get-one clauses c.args.conflict c.at.result.now d c.at.ensures found)
    c.in_ok-mark_clause.ensures.marks c.in_ok-mark_clause.ensures.reached b_newest
    (omega (arith, c.in_ok-resolve_first.ensures.places.2, c.in_ok-minimise.ensures.places.2, c.in_ok-resolve_newest.ensures.places.2))
    (past_end a.low (length steps) c.in-None.ensures.found.1)
