-- Closed sets, conflicts, and that what follows by reverse unit propagation is true in each model.
use Rattle.std.proofs.Common.{◌≡◌, ◌≢◌, ℕ, ◌⊎◌, inl, inr, Bool, true, false, not, List, [], ◌∷◌, ◌++◌, refl, sym, ap, ◌∙◌, subst, arith, ◌||◌}
use Rattle.std.specs.Prelude.{Contains, IsTrue}
use Rattle.std.proofs.lemmas.Bool.{cases_eq, true≢false, and_parts}
use Rattle.std.proofs.lemmas.List.Folds.{list_any_at}
use Rattle.std.proofs.lemmas.List.Elements.{Contains-append_left, Contains-append_right, Contains-append_cases}
use Rattle.sat_form.specs.Satisfaction.{Literal, inverse_of, literal_value, clause_value, Satisfies}
use Rattle.sat_form.specs.Propagation.{IsFalsified, Gives, IsClosed, HasFalsified, negation_of, Follows}
use Rattle.sat_form.proofs.Truth.{literal_value-inverse_of, inverse_of-inverse_of}
use Rattle.sat_form.proofs.Databases.{Contains-head, Contains-tail, Contains-one, Contains-cons_cases}

bool_cases : (a b : Bool) → (a ≡ b) ⊎ (a ≢ b)
bool_cases true true = inl refl
bool_cases true false = inr (λ e. true≢false e)
bool_cases false true = inr (λ e. true≢false (sym e))
bool_cases false false = inl refl

pub literal_cases : (l m : Literal) → (l ≡ m) ⊎ (l ≢ m)
literal_cases l m =
    elim (cases_eq l.variable m.variable) [
      | inl same ↦ elim (bool_cases l.negated m.negated) [
        | inl sign ↦ inl (λ k. record { variable = same k; negated = sign k })
        | inr other ↦ inr (λ e. other (ap (λ (x : Literal). x.negated) e))
      ]
      | inr other ↦ inr (λ e. other (ap (λ (x : Literal). x.variable) e))
    ]

-- closed sets and falsified clauses of two lists joined
pub IsClosed-front : (xs ys : List (List Literal)) (s : Literal → Bool) → IsClosed (xs ++ ys) s → IsClosed xs s
IsClosed-front xs ys s closed = λ c at. closed c (Contains-append_left xs ys c at)

pub IsClosed-back : (xs ys : List (List Literal)) (s : Literal → Bool) → IsClosed (xs ++ ys) s → IsClosed ys s
IsClosed-back xs ys s closed = λ c at. closed c (Contains-append_right xs ys c at)

pub IsClosed-append : (xs ys : List (List Literal)) (s : Literal → Bool) → IsClosed xs s → IsClosed ys s → IsClosed (xs ++ ys) s
IsClosed-append xs ys s first second = λ c at l gives. elim (Contains-append_cases xs ys c at) [ inl left ↦ first c left l gives | inr right ↦ second c right l gives ]

-- a larger set falsifies more
pub IsFalsified-more : (s t : Literal → Bool) (c : List Literal) → ((l : Literal) → IsTrue (s l) → IsTrue (t l)) → IsFalsified s c → IsFalsified t c
IsFalsified-more s t c more false_ = λ m at. more (inverse_of m) (false_ m at)

-- the negation of a clause
pub record IsNegated (clause d : List Literal) : Type 0 where
  pub l : Literal
  pub stands : Contains clause l
  pub is : d ≡ inverse_of l ∷ []

pub negation_of-has : (clause : List Literal) (l : Literal) → Contains clause l → Contains (negation_of clause) (inverse_of l ∷ [])
negation_of-has [] l at = absurd (omega (arith, at.1))
negation_of-has (m ∷ ms) l at =
    elim (Contains-cons_cases m l ms at) [
      | inl here ↦ subst (λ (x : Literal). Contains (negation_of (m ∷ ms)) (inverse_of x ∷ [])) here (Contains-head (inverse_of m ∷ []) (negation_of ms))
      | inr there ↦ Contains-tail (inverse_of m ∷ []) (inverse_of l ∷ []) (negation_of ms) (negation_of-has ms l there)
    ]

pub negation_of-from : (clause d : List Literal) → Contains (negation_of clause) d → IsNegated clause d
negation_of-from [] d at = absurd (omega (arith, at.1))
negation_of-from (m ∷ ms) d at =
    elim (Contains-cons_cases (inverse_of m ∷ []) d (negation_of ms) at) [
      | inl here ↦ record { l = m; stands = Contains-head m ms; is = sym here }
      | inr there ↦ let found : IsNegated ms d = negation_of-from ms d there in record { l = found.l; stands = Contains-tail m found.l ms found.stands; is = found.is }
    ]

-- a clause of one literal gives it
pub Gives-one : (s : Literal → Bool) (l : Literal) → Gives s (l ∷ []) l
Gives-one s l = record { stands = Contains-head l []; others = λ m at other. absurd (other (sym (Contains-one l m at))) }

-- a set that is closed under the negation of a clause has the inverses of its literals
pub closed-negation : (clause : List Literal) (s : Literal → Bool) → IsClosed (negation_of clause) s → (l : Literal) → Contains clause l → IsTrue (s (inverse_of l))
closed-negation clause s closed l at = closed (inverse_of l ∷ []) (negation_of-has clause l at) (inverse_of l) (Gives-one s (inverse_of l))

pub negation-closed : (clause : List Literal) (s : Literal → Bool) → ((l : Literal) → Contains clause l → IsTrue (s (inverse_of l))) → IsClosed (negation_of clause) s
negation-closed clause s has = λ d at m gives.
    let found : IsNegated clause d = negation_of-from clause d at in
    let same : inverse_of found.l ≡ m = Contains-one (inverse_of found.l) m (subst (λ (x : List Literal). Contains x m) found.is gives.stands) in
    subst (λ (x : Literal). IsTrue (s x)) same (has found.l found.stands)

-- a literal whose clause of one literal is falsified
pub IsFalsified-one : (s : Literal → Bool) (l : Literal) → IsFalsified s (inverse_of l ∷ []) → IsTrue (s l)
IsFalsified-one s l false_ = subst (λ (x : Literal). IsTrue (s x)) (inverse_of-inverse_of l) (false_ (inverse_of l) (Contains-head (inverse_of l) []))

-- the true literals of an assignment
not_both : (a : ℕ → Bool) (l : Literal) → literal_value a l ≡ true → literal_value a (inverse_of l) ≡ true → ⊥
not_both a l plain inverse = true≢false (sym inverse ∙ literal_value-inverse_of a l ∙ ap not plain)

inverse_true : (a : ℕ → Bool) (l : Literal) → literal_value a l ≡ false → literal_value a (inverse_of l) ≡ true
inverse_true a l is = literal_value-inverse_of a l ∙ ap not is

pub record HasTrue (a : ℕ → Bool) (clause : List Literal) : Type 0 where
  pub l : Literal
  pub stands : Contains clause l
  pub is : literal_value a l ≡ true

pub clause_value-true : (a : ℕ → Bool) (clause : List Literal) → clause_value a clause ≡ true → HasTrue a clause
clause_value-true a [] is = absurd (true≢false (sym is))
clause_value-true a (m ∷ ms) is =
    elim (literal_value a m) as (λ b. literal_value a m ≡ b → (b || clause_value a ms) ≡ true → HasTrue a (m ∷ ms)) [
      | true ↦ λ here _. record { l = m; stands = Contains-head m ms; is = here }
      | false ↦ λ _ rest. let found : HasTrue a ms = clause_value-true a ms rest in record { l = found.l; stands = Contains-tail m found.l ms found.stands; is = found.is }
    ] refl is

pub clause_value-at : (a : ℕ → Bool) (clause : List Literal) (l : Literal) → Contains clause l → literal_value a l ≡ true → clause_value a clause ≡ true
clause_value-at a clause l at is = list_any_at (literal_value a) clause at.0 l at.1 (ap (literal_value a) at.2 ∙ is)

pub Satisfies-at : (a : ℕ → Bool) (clauses : List (List Literal)) (c : List Literal) → Satisfies a clauses → Contains clauses c → clause_value a c ≡ true
Satisfies-at a [] c all at = absurd (omega (arith, at.1))
Satisfies-at a (d ∷ ds) c all at =
    elim (Contains-cons_cases d c ds at) [
      | inl here ↦ ap (clause_value a) (sym here) ∙ (and_parts _ _ all).0
      | inr there ↦ Satisfies-at a ds c (and_parts _ _ all).1 there
    ]

-- a clause that is true isn't falsified by the true literals, and these are closed under true clauses
not_falsified : (a : ℕ → Bool) (clause : List Literal) → clause_value a clause ≡ true → IsFalsified (literal_value a) clause → ⊥
not_falsified a clause is false_ = let found : HasTrue a clause = clause_value-true a clause is in not_both a found.l found.is (false_ found.l found.stands)

pub IsClosed-satisfied : (a : ℕ → Bool) (clauses : List (List Literal)) → Satisfies a clauses → IsClosed clauses (literal_value a)
IsClosed-satisfied a clauses all = λ c at l gives.
    let found : HasTrue a c = clause_value-true a c (Satisfies-at a clauses c all at) in
    elim (literal_cases found.l l) [
      | inl same ↦ subst (λ (x : Literal). IsTrue (literal_value a x)) same found.is
      | inr other ↦ absurd (not_both a found.l found.is (gives.others found.l found.stands other))
    ]

-- what follows from true clauses is true
pub Follows-sound : (a : ℕ → Bool) (clauses : List (List Literal)) (clause : List Literal) → Satisfies a clauses → Follows clauses clause → clause_value a clause ≡ true
Follows-sound a clauses clause all follows =
    elim (clause_value a clause) as (λ b. clause_value a clause ≡ b → b ≡ true) [
      | true ↦ λ _. refl
      | false ↦ λ none.
          let is_false : (l : Literal) → Contains clause l → literal_value a l ≡ false = λ l at. false_at a clause l none at in
          let closed : IsClosed (clauses ++ negation_of clause) (literal_value a) =
          IsClosed-append clauses (negation_of clause) (literal_value a) (IsClosed-satisfied a clauses all)
          (negation-closed clause (literal_value a) (λ l at. inverse_true a l (is_false l at))) in
          let conflict : HasFalsified (clauses ++ negation_of clause) (literal_value a) = follows (literal_value a) closed in
          elim (Contains-append_cases clauses (negation_of clause) conflict.0 conflict.1) [
            | inl before ↦ absurd (not_falsified a conflict.0 (Satisfies-at a clauses conflict.0 all before) conflict.2)
            | inr negated ↦
                let found : IsNegated clause conflict.0 = negation_of-from clause conflict.0 negated in
                let yes_ : literal_value a found.l ≡ true = IsFalsified-one (literal_value a) found.l (subst (λ (x : List Literal). IsFalsified (literal_value a) x) found.is conflict.2) in
                absurd (true≢false (sym yes_ ∙ is_false found.l found.stands))
          ]
    ] refl
  where
    false_at : (a : ℕ → Bool) (clause : List Literal) (l : Literal) → clause_value a clause ≡ false → Contains clause l → literal_value a l ≡ false
    false_at a clause l none at =
        elim (literal_value a l) as (λ b. literal_value a l ≡ b → b ≡ false) [
          | true ↦ λ is. absurd (true≢false (sym (clause_value-at a clause l at is) ∙ none))
          | false ↦ λ _. refl
        ] refl
