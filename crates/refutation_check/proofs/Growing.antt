-- How unit propagation grows a set of literals.
use Rattle.std.proofs.Common.{◌≡◌, ◌≢◌, ℕ, zero, suc, ◌+◌, ◌<◌, ◌≤◌, ◌⊎◌, inl, inr, Bool, true, false, not, List, [], ◌∷◌, refl, sym, ap, ◌∙◌, subst, arith}
use Rattle.std.specs.Prelude.{Contains, IsTrue, if◌then◌else◌}
use Rattle.std.proofs.lemmas.Bool.{cases_eq, true≢false}
use Rattle.sat_form.specs.Satisfaction.{Literal, inverse_of}
use Rattle.sat_form.specs.Propagation.{Gives}
use Rattle.sat_form.proofs.Databases.{Contains-head, Contains-one}
use Rattle.sat_form.proofs.Propagation.{literal_cases}
use Rattle.sat_form.proofs.Truth.{inverse_of-inverse_of}
use Rattle.refutation_check.specs.Sets.{Literals, holds, IsConsistent, missing, Grows}

pub Grows-refl : (clauses : List (List Literal)) (s : Literals) → Grows clauses s s
Grows-refl clauses s = record {
  variables = refl;
  kept = λ l in_. in_;
  given = λ set closed within l in_. within l in_;
  consistent = λ c. c;
  missing = omega arith;
}

pub Grows-trans : (clauses : List (List Literal)) (a b d : Literals) → Grows clauses a b → Grows clauses b d → Grows clauses a d
Grows-trans clauses a b d first second = record {
  variables = second.variables ∙ first.variables;
  kept = λ l in_. second.kept l (first.kept l in_);
  given = λ set closed within l in_. second.given set closed (λ m at. first.given set closed within m at) l in_;
  consistent = λ c. second.consistent (first.consistent c);
  missing = omega (arith, first.missing, second.missing);
}

-- what one clause of the database gives, the database gives
pub Grows-clause : (clauses : List (List Literal)) (c : List Literal) (a b : Literals) → Contains clauses c → Grows (c ∷ []) a b → Grows clauses a b
Grows-clause clauses c a b at grows = record {
  variables = grows.variables;
  kept = grows.kept;
  given = λ set closed within l in_. grows.given set (λ d there. closed d (subst (Contains clauses) (Contains-one c d there) at)) within l in_;
  consistent = grows.consistent;
  missing = grows.missing;
}

-- a larger set
pub Gives-more : (s t : Literal → Bool) (c : List Literal) (l : Literal) → ((m : Literal) → IsTrue (s m) → IsTrue (t m)) → Gives s c l → Gives t c l
Gives-more s t c l more gives = record { stands = gives.stands; others = λ m at other. more (inverse_of m) (gives.others m at other) }

one_less : (s t : Bool) → (IsTrue s → IsTrue t) → (if t then 0 else 1) ≤ (if s then 0 else 1)
one_less true true more = omega arith
one_less true false more = absurd (true≢false (sym (more refl)))
one_less false true more = omega arith
one_less false false more = omega arith

pub missing-more : (s t : Literal → Bool) (n : ℕ) → ((m : Literal) → IsTrue (s m) → IsTrue (t m)) → missing t n ≤ missing s n
missing-more s t zero more = omega arith
missing-more s t (suc v) more =
    let plain : Literal = record { variable = v; negated = false } in
    let negated : Literal = record { variable = v; negated = true } in
    omega (arith, missing-more s t v more, one_less (s plain) (t plain) (more plain), one_less (s negated) (t negated) (more negated))

new_one : (s t : Bool) → s ≡ false → IsTrue t → (if t then 0 else 1) + 1 ≤ (if s then 0 else 1)
new_one true t is new = absurd (true≢false is)
new_one false true is new = omega arith
new_one false false is new = absurd (true≢false (sym new))

-- one literal more
pub missing-insert :
    (s t : Literal → Bool) (l : Literal) (n : ℕ) → l.variable < n → s l ≡ false → IsTrue (t l) → ((m : Literal) → IsTrue (s m) → IsTrue (t m)) → missing t n < missing s n
missing-insert s t l zero within is new more = absurd (omega arith)
missing-insert s t l (suc v) within is new more =
    let plain : Literal = record { variable = v; negated = false } in
    let negated : Literal = record { variable = v; negated = true } in
    let first : (if t plain then 0 else 1) ≤ (if s plain then 0 else 1) = one_less (s plain) (t plain) (more plain) in
    let second : (if t negated then 0 else 1) ≤ (if s negated then 0 else 1) = one_less (s negated) (t negated) (more negated) in
    let rest : missing t v ≤ missing s v = missing-more s t v more in
    elim (cases_eq l.variable v) [
      | inr other ↦ let fewer : missing t v < missing s v = missing-insert s t l v (omega arith) is new more in omega (arith, first, second, fewer)
      | inl same ↦
          let go : (b : Bool) → l.negated ≡ b → missing t (suc v) < missing s (suc v) = λ b sign.
          here s t l v b same sign is new first second rest in
          go l.negated refl
    ]
  where
    here :
        (s t : Literal → Bool) (l : Literal) (v : ℕ) (b : Bool) → l.variable ≡ v → l.negated ≡ b → s l ≡ false → IsTrue (t l) →
        (if t (record { variable = v; negated = false }) then 0 else 1) ≤ (if s (record { variable = v; negated = false }) then 0 else 1) →
        (if t (record { variable = v; negated = true }) then 0 else 1) ≤ (if s (record { variable = v; negated = true }) then 0 else 1) →
        missing t v ≤ missing s v → missing t (suc v) < missing s (suc v)
    here s t l v false same sign is new first second rest =
        let at : l ≡ record { variable = v; negated = false } = λ k. record { variable = same k; negated = sign k } in
        let gain = new_one (s (record { variable = v; negated = false })) (t (record { variable = v; negated = false })) (sym (ap s at) ∙ is) (sym (ap t at) ∙ new) in
        omega (arith, gain, second, rest)
    here s t l v true same sign is new first second rest =
        let at : l ≡ record { variable = v; negated = true } = λ k. record { variable = same k; negated = sign k } in
        let gain = new_one (s (record { variable = v; negated = true })) (t (record { variable = v; negated = true })) (sym (ap s at) ∙ is) (sym (ap t at) ∙ new) in
        omega (arith, gain, first, rest)

-- a set with one literal put in
pub record HasInserted (old new : Literals) (l : Literal) : Type 0 where
  pub variables : new.variables ≡ old.variables
  pub inserted : IsTrue (holds new l)
  pub others : (m : Literal) → m ≢ l → holds new m ≡ holds old m

pub kept-inserted : (old new : Literals) (l : Literal) → HasInserted old new l → (m : Literal) → IsTrue (holds old m) → IsTrue (holds new m)
kept-inserted old new l ins m in_ =
    elim (literal_cases m l) [
      | inl same ↦ subst (λ (x : Literal). IsTrue (holds new x)) (sym same) ins.inserted
      | inr other ↦ ins.others m other ∙ in_
    ]

pub inserted-cases : (old new : Literals) (l : Literal) → HasInserted old new l → (m : Literal) → IsTrue (holds new m) → (m ≡ l) ⊎ IsTrue (holds old m)
inserted-cases old new l ins m in_ =
    elim (literal_cases m l) [ inl same ↦ inl same | inr other ↦ inr (sym (ins.others m other) ∙ in_) ]

pub inverse_of-injective : (l m : Literal) → inverse_of l ≡ inverse_of m → l ≡ m
inverse_of-injective l m e = sym (inverse_of-inverse_of l) ∙ ap inverse_of e ∙ inverse_of-inverse_of m

-- no literal is its own inverse
pub inverse_of-other : (l : Literal) → inverse_of l ≢ l
inverse_of-other l e = differ l.negated (ap (λ (x : Literal). x.negated) e)
  where
    differ : (b : Bool) → not b ≡ b → ⊥
    differ true e = true≢false (sym e)
    differ false e = true≢false e

pub IsConsistent-inserted : (old new : Literals) (l : Literal) → HasInserted old new l → holds old (inverse_of l) ≡ false → IsConsistent (holds old) → IsConsistent (holds new)
IsConsistent-inserted old new l ins none was = λ m plain inverse.
    let apart : holds new (inverse_of l) ≡ false = ins.others (inverse_of l) (inverse_of-other l) ∙ none in
    elim (inserted-cases old new l ins m plain) [
      | inl same ↦ true≢false (sym inverse ∙ ap (λ (x : Literal). holds new (inverse_of x)) same ∙ apart)
      | inr before ↦ elim (inserted-cases old new l ins (inverse_of m) inverse) [
        | inl same ↦
            let here : m ≡ inverse_of l = sym (inverse_of-inverse_of m) ∙ ap inverse_of same in
            true≢false (sym plain ∙ ap (holds new) here ∙ apart)
        | inr too ↦ was m before too
      ]
    ]

-- the set has grown by the literal that a clause gives
pub Grows-inserted :
    (clause : List Literal) (old new : Literals) (l : Literal) → HasInserted old new l → Gives (holds old) clause l → holds old (inverse_of l) ≡ false →
    Grows (clause ∷ []) old new
Grows-inserted clause old new l ins gives none = record {
  variables = ins.variables;
  kept = kept-inserted old new l ins;
  given = λ set closed within m in_. elim (inserted-cases old new l ins m in_) [
    | inl same ↦ subst (λ (x : Literal). IsTrue (set x)) (sym same) (closed clause (Contains-head clause []) l (Gives-more (holds old) set clause l within gives))
    | inr before ↦ within m before
  ];
  consistent = IsConsistent-inserted old new l ins none;
  missing = subst (λ n. missing (holds new) n ≤ missing (holds old) old.variables) (sym ins.variables) (missing-more (holds old) (holds new) old.variables (kept-inserted old new l ins));
}

pub missing-inserted :
    (old new : Literals) (l : Literal) → HasInserted old new l → l.variable < old.variables → holds old l ≡ false → missing (holds new) new.variables < missing (holds old) old.variables
missing-inserted old new l ins within none =
    subst (λ n. missing (holds new) n < missing (holds old) old.variables) (sym ins.variables)
    (missing-insert (holds old) (holds new) l old.variables within none ins.inserted (kept-inserted old new l ins))
