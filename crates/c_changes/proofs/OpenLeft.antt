-- How many activations may be opened.
use Rattle.std.proofs.Common.{◌≡◌, ◌≤◌, ◌<◌, ◌+◌, ◌*◌, ◌^◌, ◌==◌, ℕ, zero, suc, false, List, [], ◌∷◌, replicate, slice_index, arith}
use Rattle.c_meaning.specs.Meaning.{total}

pub one_of_total : (left : List ℕ) (f : ℕ) → slice_index left f ≤ total left
one_of_total [] f = omega arith
one_of_total (n ∷ left) zero = omega arith
one_of_total (n ∷ left) (suc f) = let h = one_of_total left f in omega (arith, h)

first_total : (n k : ℕ) → k ≤ 1000 → total (replicate n k) ≤ 1000 * n
first_total zero k h = omega arith
first_total (suc n) k h = let e = first_total n k h in omega (arith, e, h)

pub first_few : (n k : ℕ) → n < 2 ^ 31 → k ≤ 1000 → total (replicate n k) ≤ 2 ^ 42
first_few n k few h = let e = first_total n k h in omega (arith, e, few)
