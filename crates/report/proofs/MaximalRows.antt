-- Turns as rows that are as long as can be.
use Rattle.std.proofs.Common.{◌≡◌, ◌≢◌, ℕ, zero, suc, ◌+◌, ◌<◌, ◌≤◌, ◌^◌, ◌==◌, true, false, if◌then◌else◌, List, [], ◌∷◌, ◌++◌, length, replicate, get_or, All, Fits, w32, refl, sym, ap, ◌∙◌, subst, arith}
use Rattle.std.proofs.lemmas.Bool.Decides.{nat_tests}
use Rattle.std.proofs.lemmas.Bool.{false≢true}
use Rattle.std.proofs.lemmas.List.Elements.{All-nil, All-cons, All-head, All-drop}
use Rattle.report.specs.Report.{IsRow, AreMaximal}
use Rattle.report.specs.Failing.{turns_of, turn_before, rows_in}

-- ---- a turn in front of rows

same_is : (a b : ℕ) → (a == b) ≡ true → a ≡ b
same_is a b h = grind (arith, nat_tests)

itself : (t : ℕ) → (t == t) ≡ true
itself t = grind (arith, nat_tests)

joins : (t n : ℕ) (rows : List (ℕ × ℕ)) → turn_before t ((t, n) ∷ rows) ≡ (t, n + 1) ∷ rows
joins t n rows = rw (itself t) refl

-- the first of the rows is of another thread
abbrev IsApart : ℕ → List (ℕ × ℕ) → Type 0
IsApart t [] = Unit {0}
IsApart t (r ∷ rows) = t ≢ r.0

stands_apart : (t : ℕ) (rows : List (ℕ × ℕ)) → IsApart t rows → turn_before t rows ≡ (t, 1) ∷ rows
stands_apart t [] apart = refl
stands_apart t (r ∷ rows) apart = elim (r.0 == t) as (λ b. (r.0 == t) ≡ b → (if b then (t, r.1 + 1) ∷ rows else (t, 1) ∷ r ∷ rows) ≡ (t, 1) ∷ r ∷ rows) [
  | true ↦ λ e. absurd (apart (sym (same_is r.0 t e)))
  | false ↦ λ e. refl
] refl

-- ---- rows that are maximal are those of their turns

longer : (t m k : ℕ) (rows : List (ℕ × ℕ)) → m ≡ k → (t, m) ∷ rows ≡ (t, k) ∷ rows
longer t m k rows e = ap (λ (n : ℕ). (t, n) ∷ rows) e

row_in_front : (t m : ℕ) (turns : List ℕ) → IsApart t (rows_in turns) → rows_in (replicate (suc m) t ++ turns) ≡ (t, suc m) ∷ rows_in turns
row_in_front t zero turns apart = stands_apart t (rows_in turns) apart
row_in_front t (suc m) turns apart =
    ap (turn_before t) (row_in_front t m turns apart) ∙ joins t (suc m) (rows_in turns) ∙ longer t (suc m + 1) (suc (suc m)) (rows_in turns) (omega arith)

one_more : (t n : ℕ) (rows : List (ℕ × ℕ)) → 0 < n → IsApart t rows → rows_in (turns_of rows) ≡ rows → rows_in (replicate n t ++ turns_of rows) ≡ (t, n) ∷ rows
one_more t zero rows some apart same = absurd (omega (arith, some))
one_more t (suc m) rows some apart same =
    row_in_front t m (turns_of rows) (subst (IsApart t) (sym same) apart) ∙ ap (λ (rs : List (ℕ × ℕ)). (t, suc m) ∷ rs) same

first_apart : (r : ℕ × ℕ) (rows : List (ℕ × ℕ)) → AreMaximal (r ∷ rows) → IsApart r.0 rows
first_apart r [] maximal = tt
first_apart r (s ∷ rows) maximal = maximal.0

rest_maximal : (r : ℕ × ℕ) (rows : List (ℕ × ℕ)) → AreMaximal (r ∷ rows) → AreMaximal rows
rest_maximal r [] maximal = tt
rest_maximal r (s ∷ rows) maximal = maximal.1

pub rows_once : (rows : List (ℕ × ℕ)) → All IsRow rows → AreMaximal rows → rows_in (turns_of rows) ≡ rows
rows_once [] each maximal = refl
rows_once (r ∷ rows) each maximal =
    one_more r.0 r.1 rows (All-head IsRow r rows each).some (first_apart r rows maximal) (rows_once rows (All-drop IsRow 1 (r ∷ rows) each) (rest_maximal r rows maximal))

-- ---- the turns of the rows

one_longer : (t n : ℕ) (turns : List ℕ) → replicate (n + 1) t ++ turns ≡ t ∷ (replicate n t ++ turns)
one_longer t n turns = ap (λ (m : ℕ). replicate m t ++ turns) (longer_by n)
  where
    longer_by : (n : ℕ) → n + 1 ≡ suc n
    longer_by n = omega arith

turns_before : (t : ℕ) (rows : List (ℕ × ℕ)) → turns_of (turn_before t rows) ≡ t ∷ turns_of rows
turns_before t [] = refl
turns_before t (r ∷ rows) = elim (r.0 == t) as (λ b. (r.0 == t) ≡ b → turns_of (if b then (t, r.1 + 1) ∷ rows else (t, 1) ∷ r ∷ rows) ≡ t ∷ turns_of (r ∷ rows)) [
  | true ↦ λ e. one_longer t r.1 (turns_of rows) ∙ ap (λ (u : ℕ). t ∷ (replicate r.1 u ++ turns_of rows)) (sym (same_is r.0 t e))
  | false ↦ λ e. refl
] refl

pub turns_again : (turns : List ℕ) → turns_of (rows_in turns) ≡ turns
turns_again [] = refl
turns_again (t ∷ turns) = turns_before t (rows_in turns) ∙ ap (λ (ts : List ℕ). t ∷ ts) (turns_again turns)

-- ---- the rows are maximal

of_same : (t n : ℕ) (r : ℕ × ℕ) (rows : List (ℕ × ℕ)) → r.0 ≡ t → AreMaximal (r ∷ rows) → AreMaximal ((t, n) ∷ rows)
of_same t n r [] e maximal = tt
of_same t n r (s ∷ rows) e maximal = (subst (λ (k : ℕ). k ≢ s.0) e maximal.0, maximal.1)

before_maximal : (t : ℕ) (rows : List (ℕ × ℕ)) → AreMaximal rows → AreMaximal (turn_before t rows)
before_maximal t [] maximal = tt
before_maximal t (r ∷ rows) maximal = elim (r.0 == t) as (λ b. (r.0 == t) ≡ b → AreMaximal (if b then (t, r.1 + 1) ∷ rows else (t, 1) ∷ r ∷ rows)) [
  | true ↦ λ e. of_same t (r.1 + 1) r rows (same_is r.0 t e) maximal
  | false ↦ λ e. ((λ same. false≢true (sym e ∙ subst (λ (k : ℕ). (r.0 == k) ≡ true) (sym same) (itself r.0))), maximal)
] refl

pub rows_maximal : (turns : List ℕ) → AreMaximal (rows_in turns)
rows_maximal [] = tt
rows_maximal (t ∷ turns) = before_maximal t (rows_in turns) (rows_maximal turns)

-- ---- the rows are in their ranges

-- a row of no more turns
record IsWithin (most : ℕ) (row : ℕ × ℕ) : Type 0 where
  thread : row.0 < 2 ^ 32
  some : 0 < row.1
  few : row.1 ≤ most

wider : (most : ℕ) (rows : List (ℕ × ℕ)) → All (IsWithin most) rows → All (IsWithin (suc most)) rows
wider most rows all = λ k d lt. let r = all k d lt in record { thread = r.thread; some = r.some; few = omega (arith, r.few) }

before_within : (t most : ℕ) (rows : List (ℕ × ℕ)) → t < 2 ^ 32 → All (IsWithin most) rows → All (IsWithin (suc most)) (turn_before t rows)
before_within t most [] lt all = All-cons (IsWithin (suc most)) (t, 1) [] (record { thread = lt; some = omega arith; few = omega arith }) (All-nil (IsWithin (suc most)))
before_within t most (r ∷ rows) lt all =
    let first = All-head (IsWithin most) r rows all in
    elim (r.0 == t) as (λ b. All (IsWithin (suc most)) (if b then (t, r.1 + 1) ∷ rows else (t, 1) ∷ r ∷ rows)) [
      | true ↦ All-cons (IsWithin (suc most)) (t, r.1 + 1) rows (record { thread = lt; some = omega arith; few = omega (arith, first.few) }) (wider most rows (All-drop (IsWithin most) 1 (r ∷ rows) all))
      | false ↦ All-cons (IsWithin (suc most)) (t, 1) (r ∷ rows) (record { thread = lt; some = omega arith; few = omega arith }) (wider most (r ∷ rows) all)
    ]

rows_within : (turns : List ℕ) → ((i : ℕ) → Fits w32 (get_or turns i 0)) → All (IsWithin (length turns)) (rows_in turns)
rows_within [] fit = All-nil (IsWithin 0)
rows_within (t ∷ turns) fit = before_within t (length turns) (rows_in turns) (omega (arith, fit 0)) (rows_within turns (λ i. fit (suc i)))

pub rows_fit : (turns : List ℕ) → ((i : ℕ) → Fits w32 (get_or turns i 0)) → length turns < 2 ^ 64 → All IsRow (rows_in turns)
rows_fit turns fit few = λ k d lt. let r = rows_within turns fit k d lt in record { thread = r.thread; some = r.some; turns = omega (arith, r.few, few) }
