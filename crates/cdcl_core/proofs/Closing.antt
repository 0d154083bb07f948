-- The literals that are true where steps leave nothing to propagate are closed, so propagation gives no other.
use Rattle.std.proofs.Common.{◌≡◌, ◌≢◌, ◌⊎◌, inl, inr, Bool, true, false, List, ◌++◌, Option, Some, None, refl, sym, ap, ◌∙◌, subst}
use Rattle.std.specs.Prelude.{Contains, IsTrue, unwrap_or}
use Rattle.std.proofs.lemmas.Bool.{true≢false}
use Rattle.std.proofs.lemmas.List.Elements.{Contains-append_cases}
use Rattle.sat_form.specs.Satisfaction.{Literal, inverse_of}
use Rattle.sat_form.specs.Propagation.{IsFalsified, Gives, IsClosed, PropagatesTo, HasFalsified, Conflicts, negation_of}
use Rattle.sat_form.proofs.Truth.{inverse_of-inverse_of}
use Rattle.sat_form.proofs.Propagation.{literal_cases, IsClosed-append, IsNegated, negation_of-from, negation-closed, IsFalsified-one}
use Rattle.cdcl_core.specs.declared.trail.Step.{Step}
use Rattle.cdcl_core.specs.Steps.{known_truth}
use Rattle.cdcl_core.specs.Settled.{IsAtRest, IsSettled, AreFalse}
use Rattle.cdcl_core.proofs.Truths.{truth-inverse_of}

-- whether the steps make a literal true
holds : List Step → Literal → Bool
holds steps l = unwrap_or (known_truth steps l) false

some_true : (o : Option Bool) → unwrap_or o false ≡ true → o ≡ Some true
some_true None told = absurd (true≢false (sym told))
some_true (Some true) told = refl
some_true (Some false) told = absurd (true≢false (sym told))

holds-true : (steps : List Step) (l : Literal) → IsTrue (holds steps l) → known_truth steps l ≡ Some true
unfolding holds
holds-true steps l told = some_true (known_truth steps l) told

true-holds : (steps : List Step) (l : Literal) → known_truth steps l ≡ Some true → IsTrue (holds steps l)
unfolding holds
true-holds steps l told = ap (λ o. unwrap_or o false) told

-- a literal whose inverse is true is false
inverse_held : (steps : List Step) (m : Literal) → IsTrue (holds steps (inverse_of m)) → known_truth steps m ≡ Some false
inverse_held steps m told =
    subst (λ (x : Literal). known_truth steps x ≡ Some false) (inverse_of-inverse_of m) (truth-inverse_of steps (inverse_of m) true (holds-true steps (inverse_of m) told))

some_other : (steps : List Step) (l m n : Literal) → m ≢ n → known_truth steps m ≡ None → known_truth steps n ≡ None → ((x : Literal) → x ≢ l → (x ≡ m) ⊎ (x ≡ n) → known_truth steps x ≡ Some false) → ⊥
some_other steps l m n apart m_open n_open others =
    elim (literal_cases m l) [
      | inl here ↦
          let told : known_truth steps n ≡ Some false = others n (λ same. apart (here ∙ sym same)) (inr refl) in
          cc
      | inr other ↦
          let told : known_truth steps m ≡ Some false = others m other (inl refl) in
          cc
    ]

closed_at : (steps : List Step) (c : List Literal) (l : Literal) → IsAtRest steps c → Gives (holds steps) c l → IsTrue (holds steps l)
closed_at steps c l (inl (m, at, is_true)) gives =
    elim (literal_cases m l) [
      | inl same ↦ subst (λ (x : Literal). IsTrue (holds steps x)) same (true-holds steps m is_true)
      | inr other ↦ absurd (let told : known_truth steps m ≡ Some false = inverse_held steps m (gives.others m at other) in true≢false (let e : Some true ≡ Some false = sym is_true ∙ told in cc))
    ]
closed_at steps c l (inr (m, n, apart, m_at, m_open, n_at, n_open)) gives =
    absurd (some_other steps l m n apart m_open n_open (λ x other which. elim which [
      | inl same ↦ inverse_held steps x (gives.others x (subst (Contains c) (sym same) m_at) other)
      | inr same ↦ inverse_held steps x (gives.others x (subst (Contains c) (sym same) n_at) other)
    ]))

IsClosed-settled : (clauses : List (List Literal)) (steps : List Step) → IsSettled clauses steps → IsClosed clauses (holds steps)
IsClosed-settled clauses steps settled = λ c at l gives. closed_at steps c l (settled c at) gives

not_falsified : (steps : List Step) (c : List Literal) → IsAtRest steps c → IsFalsified (holds steps) c → ⊥
not_falsified steps c (inl (m, at, is_true)) all = let told : known_truth steps m ≡ Some false = inverse_held steps m (all m at) in true≢false (let e : Some true ≡ Some false = sym is_true ∙ told in cc)
not_falsified steps c (inr (m, n, apart, m_at, m_open, n_at, n_open)) all = let told : known_truth steps m ≡ Some false = inverse_held steps m (all m m_at) in cc

-- propagation gives no literal that has no value where the steps are settled
pub not_propagated : (clauses : List (List Literal)) (steps : List Step) (l : Literal) → IsSettled clauses steps → known_truth steps l ≡ None → PropagatesTo clauses l → ⊥
not_propagated clauses steps l settled open_ given =
    let told : known_truth steps l ≡ Some true = holds-true steps l (given (holds steps) (IsClosed-settled clauses steps settled)) in
    cc

closed_with : (clauses : List (List Literal)) (steps : List Step) (rest : List Literal) → IsSettled clauses steps → AreFalse steps rest → IsClosed (clauses ++ negation_of rest) (holds steps)
closed_with clauses steps rest settled all_false =
    IsClosed-append clauses (negation_of rest) (holds steps) (IsClosed-settled clauses steps settled)
    (negation-closed rest (holds steps) (λ m at. true-holds steps (inverse_of m) (truth-inverse_of steps m false (all_false m at))))

-- .. nor one where literals that are false are taken as false
pub not_propagated-with :
    (clauses : List (List Literal)) (steps : List Step) (rest : List Literal) (l : Literal) →
    IsSettled clauses steps → AreFalse steps rest → known_truth steps l ≡ None → PropagatesTo (clauses ++ negation_of rest) l → ⊥
not_propagated-with clauses steps rest l settled all_false open_ given =
    let told : known_truth steps l ≡ Some true = holds-true steps l (given (holds steps) (closed_with clauses steps rest settled all_false)) in
    cc

pub no_conflict-with : (clauses : List (List Literal)) (steps : List Step) (rest : List Literal) → IsSettled clauses steps → AreFalse steps rest → Conflicts (clauses ++ negation_of rest) → ⊥
no_conflict-with clauses steps rest settled all_false conflicts =
    let found : HasFalsified (clauses ++ negation_of rest) (holds steps) = conflicts (holds steps) (closed_with clauses steps rest settled all_false) in
    elim (Contains-append_cases clauses (negation_of rest) found.0 found.1) [
      | inl left ↦ not_falsified steps found.0 (settled found.0 left) found.2
      | inr right ↦
          let n : IsNegated rest found.0 = negation_of-from rest found.0 right in
          let is_true : known_truth steps n.l ≡ Some true =
          holds-true steps n.l (IsFalsified-one (holds steps) n.l (subst (IsFalsified (holds steps)) n.is found.2)) in
          let is_false : known_truth steps n.l ≡ Some false = all_false n.l n.stands in
          true≢false (let e : Some true ≡ Some false = sym is_true ∙ is_false in cc)
    ]

-- a settled clause that all the steps make false has a literal without a value
pub open_literal : (steps : List Step) (c : List Literal) → IsAtRest steps c → ((m : Literal) → Contains c m → known_truth steps m ≡ Some true → ⊥) → (l : Literal) × Contains c l × (known_truth steps l ≡ None)
open_literal steps c (inl (m, at, is_true)) never = absurd (never m at is_true)
open_literal steps c (inr (m, n, apart, m_at, m_open, n_at, n_open)) never = (m, m_at, m_open)
