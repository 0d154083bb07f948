-- Which clauses are in the database behind the entries of a log, and what their numbers are.
use Rattle.std.proofs.Common.{◌≡◌, ℕ, zero, suc, ◌+◌, ◌-◌, ◌<◌, ◌≤◌, ◌⊎◌, inl, inr, Bool, true, false, List, [], ◌∷◌, ◌++◌, length, take, drop, refl, sym, ap, ◌∙◌, subst, arith}
use Rattle.std.specs.Prelude.{Option, Some, None, slice_get, nat_eq, nat_lt, cond, ◌||◌, if◌then◌else◌, Contains}
use Rattle.std.specs.List.{position_from}
use Rattle.std.proofs.lemmas.Bool.{le-ltb, lt-ltb}
use Rattle.std.proofs.lemmas.Option.{slice_get_within}
use Rattle.std.proofs.lemmas.List.Elements.{Contains-append_right, Contains-append_cases}
use Rattle.sat_form.specs.Satisfaction.{Literal}
use Rattle.sat_form.specs.Databases.{added_clauses, deleted_numbers, numbered_clauses, is_among, clauses_without, database, live_clause, is_deletion_of}
use Rattle.sat_form.specs.declared.logs.Entry.{Entry}
use Rattle.sat_form.specs.declared.logs.Entry.TheVariants.{Added, Deleted}

-- elements of a list
pub Contains-head : {X : Type 0} → (x : X) (xs : List X) → Contains (x ∷ xs) x
Contains-head x xs = (0, omega arith, refl)

pub Contains-tail : {X : Type 0} → (x y : X) (xs : List X) → Contains xs y → Contains (x ∷ xs) y
Contains-tail x y xs at = Contains-append_right (x ∷ []) xs y at

pub Contains-one : {X : Type 0} → (x y : X) → Contains (x ∷ []) y → x ≡ y
Contains-one x y (zero, within, is) = is
Contains-one x y (suc k, within, is) = absurd (omega arith)

pub Contains-cons_cases : {X : Type 0} → (x y : X) (xs : List X) → Contains (x ∷ xs) y → (x ≡ y) ⊎ Contains xs y
Contains-cons_cases x y xs at = elim (Contains-append_cases (x ∷ []) xs y at) [ inl here ↦ inl (Contains-one x y here) | inr there ↦ inr there ]

-- whether the place is there and below m
abbrev pub is_below : ℕ → Option ℕ → Bool
is_below m None = false
is_below m (Some place) = nat_lt place m

none_below : (t : Entry → Bool) (k m : ℕ) (es : List Entry) → m ≤ k → is_below m (position_from t k es) ≡ false
none_below t k m [] le = refl
none_below t k m (e ∷ es) le =
    elim (t e) as (λ b. is_below m (cond b (Some k) (position_from t (k + 1) es)) ≡ false) [ true ↦ le-ltb k m le | false ↦ none_below t (k + 1) m es (omega arith) ]

-- the numbers that the first p entries delete
pub is_among-deleted : (n k p : ℕ) (es : List Entry) → is_among (deleted_numbers (take p es)) n ≡ is_below (k + p) (position_from (is_deletion_of n) k es)
is_among-deleted n k zero es = sym (none_below (is_deletion_of n) k (k + 0) es (omega arith))
is_among-deleted n k (suc p) [] = refl
is_among-deleted n k (suc p) (Added c hs ∷ es) =
    is_among-deleted n (k + 1) p es ∙ ap (λ m. is_below m (position_from (is_deletion_of n) (k + 1) es)) (omega arith)
is_among-deleted n k (suc p) (Deleted m ∷ es) =
    let rest : is_among (deleted_numbers (take p es)) n ≡ is_below (k + suc p) (position_from (is_deletion_of n) (k + 1) es) =
    is_among-deleted n (k + 1) p es ∙ ap (λ i. is_below i (position_from (is_deletion_of n) (k + 1) es)) (omega arith) in
    elim (nat_eq m n) as (λ b. (b || is_among (deleted_numbers (take p es)) n) ≡ is_below (k + suc p) (cond b (Some k) (position_from (is_deletion_of n) (k + 1) es))) [
      | true ↦ sym (lt-ltb k (k + suc p) (omega arith))
      | false ↦ rest
    ]

-- the clauses that the first p entries add come first
pub added_clauses-take : (p : ℕ) (es : List Entry) → added_clauses es ≡ added_clauses (take p es) ++ added_clauses (drop p es)
added_clauses-take zero es = refl
added_clauses-take (suc p) [] = refl
added_clauses-take (suc p) (Added c hs ∷ es) = ap (λ cs. c ∷ cs) (added_clauses-take p es)
added_clauses-take (suc p) (Deleted m ∷ es) = added_clauses-take p es

pub added_clauses-append : (es fs : List Entry) → added_clauses (es ++ fs) ≡ added_clauses es ++ added_clauses fs
added_clauses-append [] fs = refl
added_clauses-append (Added c hs ∷ es) fs = ap (λ cs. c ∷ cs) (added_clauses-append es fs)
added_clauses-append (Deleted m ∷ es) fs = added_clauses-append es fs

-- places of two lists joined
pub slice_get-front : {X : Type 0} → (xs ys : List X) (n : ℕ) → n < length xs → slice_get (xs ++ ys) n ≡ slice_get xs n
slice_get-front [] ys n within = absurd (omega arith)
slice_get-front (x ∷ xs) ys zero within = refl
slice_get-front (x ∷ xs) ys (suc n) within = slice_get-front xs ys n (omega arith)

pub slice_get-back : {X : Type 0} → (xs ys : List X) (n : ℕ) → length xs ≤ n → slice_get (xs ++ ys) n ≡ slice_get ys (n - length xs)
slice_get-back [] ys n past = ap (slice_get ys) (omega arith)
slice_get-back (x ∷ xs) ys zero past = absurd (omega arith)
slice_get-back (x ∷ xs) ys (suc n) past = slice_get-back xs ys n (omega arith) ∙ ap (slice_get ys) (omega arith)

-- the clauses that are left are those whose numbers are not gone
clauses_without-has :
    (gone : List ℕ) (k n : ℕ) (cs : List (List Literal)) (c : List Literal) → is_among gone (k + n) ≡ false → slice_get cs n ≡ Some c → Contains (clauses_without gone k cs) c
clauses_without-has gone k n [] c live at = absurd (cc)
clauses_without-has gone k zero (d ∷ cs) c live at =
    let here : d ≡ c = cc in
    let kept : is_among gone k ≡ false = ap (is_among gone) (omega arith) ∙ live in
    subst (λ b. Contains (if b then clauses_without gone (suc k) cs else d ∷ clauses_without gone (suc k) cs) c) (sym kept)
    (subst (λ (x : List Literal). Contains (d ∷ clauses_without gone (suc k) cs) x) here (Contains-head d (clauses_without gone (suc k) cs)))
clauses_without-has gone k (suc n) (d ∷ cs) c live at =
    let rest : Contains (clauses_without gone (suc k) cs) c = clauses_without-has gone (suc k) n cs c (ap (is_among gone) (omega arith) ∙ live) at in
    elim (is_among gone k) as (λ b. Contains (if b then clauses_without gone (suc k) cs else d ∷ clauses_without gone (suc k) cs) c) [
      | true ↦ rest
      | false ↦ Contains-tail d c (clauses_without gone (suc k) cs) rest
    ]

-- a number that isn't gone
pub record HasNumber (gone : List ℕ) (k : ℕ) (cs : List (List Literal)) (c : List Literal) : Type 0 where
  pub n : ℕ
  pub is : slice_get cs n ≡ Some c
  pub live : is_among gone (k + n) ≡ false

has_later : (gone : List ℕ) (k : ℕ) (d : List Literal) (cs : List (List Literal)) (c : List Literal) → HasNumber gone (suc k) cs c → HasNumber gone k (d ∷ cs) c
has_later gone k d cs c found = record { n = suc found.n; is = found.is; live = ap (is_among gone) (omega arith) ∙ found.live }

clauses_without-from : (gone : List ℕ) (k : ℕ) (cs : List (List Literal)) (c : List Literal) → Contains (clauses_without gone k cs) c → HasNumber gone k cs c
clauses_without-from gone k [] c at = absurd (omega (arith, at.1))
clauses_without-from gone k (d ∷ cs) c at =
    elim (is_among gone k) as (λ b. is_among gone k ≡ b → Contains (if b then clauses_without gone (suc k) cs else d ∷ clauses_without gone (suc k) cs) c → HasNumber gone k (d ∷ cs) c) [
      | true ↦ λ _ inside. has_later gone k d cs c (clauses_without-from gone (suc k) cs c inside)
      | false ↦ λ kept inside. elim (Contains-cons_cases d c (clauses_without gone (suc k) cs) inside) [
        | inl here ↦ record { n = 0; is = ap Some here; live = ap (is_among gone) (omega arith) ∙ kept }
        | inr there ↦ has_later gone k d cs c (clauses_without-from gone (suc k) cs c there)
      ]
    ] refl at

-- the clause of a live number is in the database
pub database-has : (form : List (List Literal)) (es : List Entry) (n : ℕ) (c : List Literal) → live_clause form es n ≡ Some c → Contains (database form es) c
database-has form es n c at =
    elim (is_among (deleted_numbers es) n) as (λ b. is_among (deleted_numbers es) n ≡ b → (if b then None else slice_get (numbered_clauses form es) n) ≡ Some c → Contains (database form es) c) [
      | true ↦ λ _ none. absurd (cc)
      | false ↦ λ kept found. clauses_without-has (deleted_numbers es) 0 n (numbered_clauses form es) c (ap (is_among (deleted_numbers es)) (omega arith) ∙ kept) found
    ] refl at

-- .. and each clause of the database has a live number
pub database-from :
    (form : List (List Literal)) (es : List Entry) (c : List Literal) → Contains (database form es) c → (n : ℕ) × (n < length (numbered_clauses form es)) × (live_clause form es n ≡ Some c)
database-from form es c at =
    let found : HasNumber (deleted_numbers es) 0 (numbered_clauses form es) c = clauses_without-from (deleted_numbers es) 0 (numbered_clauses form es) c at in
    let kept : is_among (deleted_numbers es) found.n ≡ false = ap (is_among (deleted_numbers es)) (omega arith) ∙ found.live in
    (found.n, slice_get_within (numbered_clauses form es) found.n c found.is, ap (λ b. if b then None else slice_get (numbered_clauses form es) found.n) kept ∙ found.is)
