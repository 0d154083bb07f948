-- What visits of clauses find, and what passes over them have come to.
use Rattle.std.proofs.Common.{◌≡◌, ◌≢◌, ℕ, ◌+◌, ◌<◌, ◌≤◌, ◌⊎◌, inl, inr, Bool, false, List, [], ◌∷◌, ◌++◌, length, take, drop, get_or, refl, sym, ap, ◌∙◌, subst, arith}
use Rattle.std.specs.Prelude.{Option, Some, None, Contains, IsTrue, IsSomeAnd}
use Rattle.std.proofs.lemmas.Bool.{cases_eq, true≢false}
use Rattle.std.proofs.lemmas.List.{take_more, take-append-drop}
use Rattle.std.proofs.lemmas.List.Elements.{Contains-append_left, Contains-push, Contains-push_cases}
use Rattle.sat_form.specs.Satisfaction.{Literal, inverse_of}
use Rattle.sat_form.specs.Propagation.{IsFalsified}
use Rattle.sat_form.specs.Databases.{numbered_clauses, live_clause, database}
use Rattle.sat_form.specs.declared.logs.Entry.{Entry}
use Rattle.sat_form.proofs.Databases.{Contains-head, Contains-one, database-has, database-from}
use Rattle.sat_form.proofs.Propagation.{literal_cases}
use Rattle.sat_form.proofs.Truth.{inverse_of-inverse_of}
use Rattle.refutation_check.specs.Sets.{Literals, holds, missing, Grows}
use Rattle.refutation_check.specs.Outcomes.{HasLast, IsAtRest, IsOutcome, IsStatus, IsNegation}
use Rattle.refutation_check.specs.Moments.{IsVisit, IsPassing}
use Rattle.refutation_check.specs.declared.propagation.Status.TheVariants.{Open, Last}
use Rattle.refutation_check.specs.declared.propagation.Outcome.{Outcome}
use Rattle.refutation_check.specs.declared.propagation.Outcome.TheVariants.{Still, Grown, Conflict}
use Rattle.refutation_check.proofs.Growing.{inverse_of-injective, inverse_of-other}

-- a part of a clause
pub Contains-take : {X : Type 0} → (k : ℕ) (xs : List X) (x : X) → Contains (take k xs) x → Contains xs x
Contains-take k xs x at = subst (λ ys. Contains ys x) (take-append-drop k xs) (Contains-append_left (take k xs) (drop k xs) x at)

pub Contains-read : {X : Type 0} → (xs : List X) (k : ℕ) (x : X) → k < length xs → x ≡ get_or xs k x → Contains xs x
Contains-read xs k x within read = (k, within, sym read)

pub take-read : {X : Type 0} → (xs : List X) (k : ℕ) (x : X) → k < length xs → x ≡ get_or xs k x → take k xs ++ x ∷ [] ≡ take (k + 1) xs
take-read xs k x within read = ap (λ y. take k xs ++ y ∷ []) read ∙ sym (take_more xs k x within)

-- one literal more
IsFalsified-push : (s : Literal → Bool) (ls : List Literal) (y : Literal) → IsFalsified s ls → IsTrue (s (inverse_of y)) → IsFalsified s (ls ++ y ∷ [])
IsFalsified-push s ls y before here = λ m at. elim (Contains-push_cases ls y m at) [
  | inl old ↦ before m old
  | inr new ↦ subst (λ (x : Literal). IsTrue (s (inverse_of x))) new here
]

pub HasLast-false : (s : Literal → Bool) (ls : List Literal) (y : Literal) (last : Option Literal) → HasLast s ls last → IsTrue (s (inverse_of y)) → HasLast s (ls ++ y ∷ []) last
HasLast-false s ls y None before here = IsFalsified-push s ls y before here
HasLast-false s ls y (Some l) before here = (
  record {
    stands = Contains-append_left ls (y ∷ []) l before.0.stands;
    others = λ m at other. elim (Contains-push_cases ls y m at) [
      | inl old ↦ before.0.others m old other
      | inr new ↦ subst (λ (x : Literal). IsTrue (s (inverse_of x))) new here
    ];
  },
  before.1,
)

pub HasLast-next :
    (s : Literal → Bool) (ls : List Literal) (y : Literal) (last : Option Literal) → HasLast s ls last → s (inverse_of y) ≡ false →
    (IsSomeAnd last (λ l. l ≢ y) → ⊥) → HasLast s (ls ++ y ∷ []) (Some y)
HasLast-next s ls y None before here same = (
  record {
    stands = Contains-push ls y;
    others = λ m at other. elim (Contains-push_cases ls y m at) [ inl old ↦ before m old | inr new ↦ absurd (other (sym new)) ];
  },
  here,
)
HasLast-next s ls y (Some l) before here same =
    let is : l ≡ y = elim (literal_cases l y) [ inl e ↦ e | inr apart ↦ absurd (same apart) ] in (
      record {
        stands = Contains-push ls y;
        others = λ m at other. elim (Contains-push_cases ls y m at) [ inl old ↦ before.0.others m old (λ e. other (e ∙ is)) | inr new ↦ absurd (other (sym new)) ];
      },
      here,
    )

pub IsStatus-open :
    (s : Literal → Bool) (ls : List Literal) (k : ℕ) (y : Literal) (last : Option Literal) → k < length ls → y ≡ get_or ls k y → HasLast s (take k ls) last →
    s (inverse_of y) ≡ false → IsSomeAnd last (λ l. l ≢ y) → IsStatus s ls Open
IsStatus-open s ls k y None within read before here other = absurd other
IsStatus-open s ls k y (Some l) within read before here other = (
  l,
  y,
  record { stands = Contains-take k ls l before.0.stands; not_false = before.1 },
  record { stands = Contains-read ls k y within read; not_false = here },
  other,
)

-- a clause at rest
pub IsAtRest-open : (s : Literal → Bool) (c : List Literal) → IsStatus s c Open → IsAtRest s c
IsAtRest-open s c open_ = record {
  closed = λ m gives. elim (literal_cases open_.0 m) [
    | inr other ↦ absurd (true≢false (sym (gives.others open_.0 open_.2.stands other) ∙ open_.2.not_false))
    | inl same ↦ absurd (true≢false (sym (gives.others open_.1 open_.3.stands (λ e. open_.4 (same ∙ sym e))) ∙ open_.3.not_false))
  ];
  not_falsified = λ all. true≢false (sym (all open_.0 open_.2.stands) ∙ open_.2.not_false);
}

pub IsAtRest-last : (s : Literal → Bool) (c : List Literal) (l : Literal) → IsStatus s c (Last l) → IsTrue (s l) → IsAtRest s c
IsAtRest-last s c l last in_ = record {
  closed = λ m gives. elim (literal_cases l m) [
    | inr other ↦ absurd (true≢false (sym (gives.others l last.0.stands other) ∙ last.1))
    | inl same ↦ subst (λ (x : Literal). IsTrue (s x)) same in_
  ];
  not_falsified = λ all. true≢false (sym (all l last.0.stands) ∙ last.1);
}

pub IsOutcome-still : (c : List Literal) (old new : Literals) → new ≡ old → IsAtRest (holds old) c → IsOutcome (c ∷ []) old new Still
IsOutcome-still c old new same rest =
    (same, λ d at. subst (λ (x : List Literal). IsAtRest (holds new) x) (Contains-one c d at) (subst (λ (x : Literals). IsAtRest (holds x) c) (sym same) rest))

-- the literals of a clause that is taken as false
pub IsNegation-nil : (s : Literal → Bool) → ((l : Literal) → s l ≡ false) → IsNegation [] s
IsNegation-nil s none = record {
  all = λ l at. absurd (omega (arith, at.1));
  only = λ l in_. absurd (true≢false (sym in_ ∙ none l));
  consistent = λ l in_ _. true≢false (sym in_ ∙ none l);
}

pub IsNegation-push :
    (s t : Literal → Bool) (ls : List Literal) (y : Literal) → IsNegation ls s → s y ≡ false → IsTrue (t (inverse_of y)) →
    ((m : Literal) → m ≢ inverse_of y → t m ≡ s m) → IsNegation (ls ++ y ∷ []) t
IsNegation-push s t ls y before out new others =
    let kept : (m : Literal) → IsTrue (s m) → IsTrue (t m) = λ m in_. elim (literal_cases m (inverse_of y)) [
      | inl same ↦ subst (λ (x : Literal). IsTrue (t x)) (sym same) new
      | inr other ↦ others m other ∙ in_
    ] in
    let cases : (m : Literal) → IsTrue (t m) → (m ≡ inverse_of y) ⊎ IsTrue (s m) = λ m in_. elim (literal_cases m (inverse_of y)) [
      | inl same ↦ inl same
      | inr other ↦ inr (sym (others m other) ∙ in_)
    ] in
    let gone : t y ≡ false = others y (λ e. inverse_of-other y (sym e)) ∙ out in
    record {
      all = λ m at. elim (Contains-push_cases ls y m at) [
        | inl old ↦ kept (inverse_of m) (before.all m old)
        | inr here ↦ subst (λ (x : Literal). IsTrue (t (inverse_of x))) here new
      ];
      only = λ m in_. elim (cases m in_) [
        | inl same ↦ subst (Contains (ls ++ y ∷ [])) (sym (ap inverse_of same ∙ inverse_of-inverse_of y)) (Contains-push ls y)
        | inr old ↦ Contains-append_left ls (y ∷ []) (inverse_of m) (before.only m old)
      ];
      consistent = λ m plain inverse. elim (cases m plain) [
        | inl same ↦ true≢false (sym inverse ∙ ap t (ap inverse_of same ∙ inverse_of-inverse_of y) ∙ gone)
        | inr first ↦ elim (cases (inverse_of m) inverse) [
          | inl same ↦ true≢false (sym plain ∙ ap t (inverse_of-injective m y same) ∙ gone)
          | inr second ↦ before.consistent m first second
        ]
      ];
    }

-- the visit of the clause of a number
pub IsVisit-clause :
    (form : List (List Literal)) (before : List Entry) (n : ℕ) (c : List Literal) (old new : Literals) (o : Outcome) → live_clause form before n ≡ Some c →
    IsOutcome (c ∷ []) old new o → IsVisit form before old new n o
IsVisit-clause form before n c old new Still at done = (done.0, λ d there. done.1 d (subst (Contains (c ∷ [])) (some_same c d (sym at ∙ there)) (Contains-head c [])))
  where
    some_same : (c d : List Literal) → Some c ≡ Some d → c ≡ d
    some_same c d e = cc
IsVisit-clause form before n c old new Grown at done = done
IsVisit-clause form before n c old new Conflict at done =
    (c, database-has form before n c at, subst (λ (x : List Literal). ((m : Literal) → Contains x m → IsTrue (holds new (inverse_of m)))) (sym (Contains-one c done.0 done.1)) done.2)

pub IsVisit-none : (form : List (List Literal)) (before : List Entry) (n : ℕ) (s : Literals) → live_clause form before n ≡ None → IsVisit form before s s n Still
IsVisit-none form before n s none = (refl, λ d there. absurd (cc))

-- one number more
pub IsPassing-start : (form : List (List Literal)) (before : List Entry) (s : Literals) → IsPassing form before s s 0 Still
IsPassing-start form before s = (refl, λ k c below at. absurd (omega arith))

pub IsPassing-still :
    (form : List (List Literal)) (before : List Entry) (old middle new : Literals) (n : ℕ) (o : Outcome) → IsPassing form before old middle n o →
    IsVisit form before middle new n Still → IsPassing form before old new (n + 1) o
IsPassing-still form before old middle new n Still passing visit = (
  visit.0 ∙ passing.0,
  λ k c below at. elim (cases_eq k n) [
    | inl same ↦ visit.1 c (ap (live_clause form before) (sym same) ∙ at)
    | inr other ↦ subst (λ (x : Literals). IsAtRest (holds x) c) (sym visit.0) (passing.1 k c (omega arith) at)
  ],
)
IsPassing-still form before old middle new n Grown passing visit =
    subst (λ (x : Literals). missing (holds x) x.variables < missing (holds old) old.variables) (sym visit.0) passing
IsPassing-still form before old middle new n Conflict passing visit = passing

pub IsPassing-grown :
    (form : List (List Literal)) (before : List Entry) (old middle new : Literals) (n : ℕ) → Grows (database form before) old middle →
    IsVisit form before middle new n Grown → IsPassing form before old new (n + 1) Grown
IsPassing-grown form before old middle new n grows visit = omega (arith, grows.missing, visit)

-- all numbers
pub IsOutcome-passed :
    (form : List (List Literal)) (before : List Entry) (old new : Literals) (n : ℕ) (o : Outcome) → length (numbered_clauses form before) ≤ n →
    IsPassing form before old new n o → IsOutcome (database form before) old new o
IsOutcome-passed form before old new n Still all passing = (
  passing.0,
  λ c at. let found = database-from form before c at in passing.1 found.0 c (omega (arith, found.1, all)) found.2,
)
IsOutcome-passed form before old new n Grown all passing = passing
IsOutcome-passed form before old new n Conflict all passing = absurd passing
