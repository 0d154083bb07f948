-- How much code the first places become.
use Rattle.std.proofs.Common.{◌≡◌, ℕ, zero, suc, ◌+◌, ◌-◌, ◌<◌, ◌≤◌, List, [], ◌∷◌, ◌++◌, length, drop, get_or, refl, sym, ap, ◌∙◌, arith}
use Rattle.std.specs.Prelude.{reverse}
use Rattle.std.proofs.lemmas.List.{get_or-reverse, get_or_default, length-reverse, reverse-append}
use Rattle.goto_prog.specs.Nodes.{Nodes, done, plain, repeats, node_count}
use Rattle.goto_checks.specs.Inserted.{widths, extent, total_of, sums}

first_total : (ws : List ℕ) → get_or (sums ws) 0 0 ≡ total_of (sums ws)
first_total [] = refl
first_total (w ∷ ws) = refl

extent_rest : (n : ℕ) (ws : List ℕ) → extent n ws + get_or (sums ws) n 0 ≡ total_of (sums ws)
extent_rest zero ws = omega (arith, first_total ws)
extent_rest (suc n) [] = omega arith
extent_rest (suc n) (w ∷ ws) = omega (arith, extent_rest n ws)

pub extent_read : (n : ℕ) (xs ws : List ℕ) (first other : ℕ) → xs ≡ sums ws → first ≡ get_or xs 0 0 → other ≡ get_or xs n 0 → first - other ≡ extent n ws
extent_read n xs ws first other are is others =
    omega (arith, extent_rest n ws, is, others, first_total ws, ap (λ (ys : List ℕ). get_or ys 0 0) are, ap (λ (ys : List ℕ). get_or ys n 0) are)

one_more : (n : ℕ) → n + 1 ≡ suc n
one_more n = omega arith

-- the totals of the places behind nodes
pub sums_behind : (code : Nodes) (ws : List ℕ) → drop (node_count code) (sums (widths code ws)) ≡ sums ws
sums_behind done ws = refl
sums_behind (plain i rest) ws = ap (λ n. drop n (sums (widths (plain i rest) ws))) (one_more (node_count rest)) ∙ sums_behind rest ws
sums_behind (repeats line f k rotated body rest) ws = ap (λ n. drop n (sums (widths (repeats line f k rotated body rest) ws))) (one_more (node_count rest)) ∙ sums_behind rest ws

-- ---- the last of the code's totals is the first

pub read_reversed : (xs : List ℕ) (k d : ℕ) → k < length xs → get_or xs (length xs - 1 - k) d ≡ get_or (reverse xs) k 0
read_reversed xs k d lt = get_or_default xs (length xs - 1 - k) d 0 (omega (arith, lt)) ∙ sym (get_or-reverse xs k 0 lt)

past_all : (xs : List ℕ) (k : ℕ) → length xs ≤ k → get_or xs k 0 ≡ 0
past_all [] k past = refl
past_all (x ∷ xs) zero past = absurd (omega (arith, past))
past_all (x ∷ xs) (suc k) past = past_all xs k (omega (arith, past))

pub read_past : (xs : List ℕ) (k : ℕ) → length xs ≤ k → get_or (reverse xs) k 0 ≡ 0
read_past xs k past = past_all (reverse xs) k (omega (arith, past, length-reverse xs))

pub popped_none : (xs : List ℕ) → length xs ≡ 0 → reverse xs ≡ drop 1 (reverse xs)
popped_none [] h = refl
popped_none (x ∷ xs) h = absurd (omega (arith, h))

pub popped : (xs : List ℕ) (x : ℕ) → reverse xs ≡ drop 1 (reverse (xs ++ x ∷ []))
popped xs x = sym (ap (drop 1) (reverse-append xs (x ∷ [])))
