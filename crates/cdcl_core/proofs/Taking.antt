-- Marks that are taken away one after the other, while a clause is made of them.
use Rattle.std.proofs.Common.{◌≡◌, ℕ, ◌<◌, inl, inr, Bool, false, List, [], ◌∷◌, ◌++◌, length, get_or, set, length-set, eqb, Option, Some, None, refl, sym, ap, ◌∙◌, subst, arith}
use Rattle.std.specs.Prelude.{Contains, option_map}
use Rattle.std.specs.List.{IsDistinct}
use Rattle.std.proofs.lemmas.Bool.{cases_eq}
use Rattle.std.proofs.lemmas.List.{get_or_default}
use Rattle.std.proofs.lemmas.List.Elements.{Contains-append_left, Contains-push, Contains-push_cases}
use Rattle.sat_form.specs.Satisfaction.{Literal}
use Rattle.cdcl_core.specs.declared.trail.Step.{Step}
use Rattle.cdcl_core.specs.Steps.{known_value, known_truth, false_literal_of}
use Rattle.cdcl_core.specs.Learning.{AreTouched}
use Rattle.cdcl_core.specs.Cuts.{IsOn, TakesMarks, IsClauseOf}
use Rattle.cdcl_core.proofs.Truths.{literal-not_value, same_from_truth, value_from_truth}
use Rattle.cdcl_core.proofs.Marking.{IsOn-left, IsOn-other, IsOn-cleared}
use Rattle.cdcl_core.proofs.Distinct.{IsDistinct-pushed}

IsDistinct-nil : IsDistinct eqb []
unfolding IsDistinct
IsDistinct-nil = tt

pub TakesMarks-none : (steps : List Step) (m : List Bool) → TakesMarks steps m m []
TakesMarks-none steps m =
    record { size = refl; left = λ v on. on; distinct = IsDistinct-nil; taken = λ l at. absurd (omega (arith, at.1)); found = λ l on is_false. inl on }

some_literal : (v : ℕ) (l : Literal) (o : Option Bool) → Some l ≡ option_map (λ b. let m : Literal = record { variable = v; negated = b } in m) o → (l.variable ≡ v) × (o ≡ Some l.negated)
some_literal v l None is = absurd (cc)
some_literal v l (Some b) is =
    let m : Literal = record { variable = v; negated = b } in
    let same : l ≡ m = cc in
    (ap (λ (x : Literal). x.variable) same, ap Some (sym (ap (λ (x : Literal). x.negated) same)))

-- the literal of a variable that is false
pub false_literal-parts : (steps : List Step) (v : ℕ) (l : Literal) → Some l ≡ false_literal_of steps v → (l.variable ≡ v) × (known_value steps v ≡ Some l.negated)
false_literal-parts steps v l is = some_literal v l (known_value steps v) is

taken_one : (steps : List Step) (start m : List Bool) (clause : List Literal) (l : Literal) → IsOn m l.variable → known_truth steps l ≡ Some false → TakesMarks steps start m clause → TakesMarks steps start (set m l.variable false) (clause ++ l ∷ [])
taken_one steps start m clause l on is_false x =
    record {
      size = length-set m l.variable false ∙ x.size;
      left = λ v still. x.left v (IsOn-left m l.variable v still).0;
      distinct = IsDistinct-pushed clause l x.distinct (λ n at same. (x.taken n at).1 (subst (IsOn m) (sym same) on));
      taken = λ n at. elim (Contains-push_cases clause l n at) [
        | inl before ↦ ((x.taken n before).0, λ still. (x.taken n before).1 (IsOn-left m l.variable n.variable still).0, (x.taken n before).2)
        | inr here ↦
            subst (λ (y : Literal). IsOn start y.variable × (IsOn (set m l.variable false) y.variable → ⊥) × (known_truth steps y ≡ Some false)) here
            (x.left l.variable on, IsOn-cleared m l.variable, is_false)
      ];
      found = λ n was n_false. elim (x.found n was n_false) [
        | inl still ↦ elim (cases_eq n.variable l.variable) [
          | inl same ↦ inr (subst (λ (y : Literal). Contains (clause ++ l ∷ []) y) (sym (same_from_truth steps n l false same n_false is_false)) (Contains-push clause l))
          | inr other ↦ inl (IsOn-other m l.variable n.variable false other still)
        ]
        | inr before ↦ inr (Contains-append_left clause (l ∷ []) n before)
      ];
    }

pub TakesMarks-taken :
    (steps : List Step) (start m : List Bool) (clause : List Literal) (v : ℕ) (l : Literal) → IsOn m v → Some l ≡ false_literal_of steps v → TakesMarks steps start m clause → TakesMarks steps start (set m v false) (clause ++ l ∷ [])
TakesMarks-taken steps start m clause v l on is x =
    let parts : (l.variable ≡ v) × (known_value steps v ≡ Some l.negated) = false_literal-parts steps v l is in
    let value : known_value steps l.variable ≡ Some l.negated = ap (known_value steps) parts.0 ∙ parts.1 in
    subst (λ w. TakesMarks steps start (set m w false) (clause ++ l ∷ [])) parts.0
    (taken_one steps start m clause l (subst (IsOn m) (sym parts.0) on) (literal-not_value steps l.variable l.negated value) x)

none_left :
    (steps : List Step) (start m : List Bool) (touched : List ℕ) (l : Literal) → AreTouched start touched → ((v : ℕ) → IsOn m v → IsOn start v) →
    ((k : ℕ) → k < length touched → IsOn m (get_or touched k 0) → known_value steps (get_or touched k 0) ≡ None) → known_truth steps l ≡ Some false → IsOn m l.variable → ⊥
none_left steps start m touched l are left off is_false on =
    let at : Contains touched l.variable = are l.variable (left l.variable on) in
    let here : get_or touched at.0 0 ≡ l.variable = get_or_default touched at.0 0 l.variable at.1 ∙ at.2 in
    let none : known_value steps l.variable ≡ None = ap (known_value steps) (sym here) ∙ off at.0 at.1 (subst (IsOn m) (sym here) on) in
    let some : (v : Bool) × (known_value steps l.variable ≡ Some v) = value_from_truth steps l false is_false in
    let both : None ≡ Some some.0 = sym none ∙ some.1 in
    cc

-- all marks are taken
pub IsClauseOf-taken :
    (steps : List Step) (start m : List Bool) (touched : List ℕ) (first : ℕ) (b : Bool) (clause back : List Literal) → AreTouched start touched → TakesMarks steps start m clause →
    ((k : ℕ) → k < length touched → IsOn m (get_or touched k 0) → known_value steps (get_or touched k 0) ≡ None) → clause ≡ record { variable = first; negated = b } ∷ back → IsClauseOf steps start first clause
IsClauseOf-taken steps start m touched first b clause back are x off is =
    record {
      asserted = record { variable = first; negated = b };
      others = back;
      split = is;
      same = refl;
      distinct = x.distinct;
      taken = λ l at. ((x.taken l at).0, (x.taken l at).2);
      found = λ l was is_false. elim (x.found l was is_false) [
        | inl still ↦ absurd (none_left steps start m touched l are x.left off is_false still)
        | inr there ↦ there
      ];
    }
