-- A number is told by as many bytes as its type has.
use Rattle.std.proofs.Common.{◌≡◌, ℕ, zero, suc, ◌-◌, ◌<◌, ◌≤◌, List, take, drop, get_or, ap, arith}
use Rattle.std.specs.Int.{Width, w8, w16, w32, w64, byte_len, byte_worth, sum_through, from_le_bytes}
use Rattle.std.proofs.lemmas.List.{get_or-take}
use Rattle.c_types.specs.declared.integers.IntegerType.{IntegerType}
use Rattle.c_types.specs.declared.integers.IntegerType.TheVariants as types
use Rattle.c_types.specs.Integers.{bytes}
use Rattle.core_tree.specs.Operations.{read_bits}
use Rattle.c_values.specs.Variables.{storage, number_of, number_at}

sums_agree : (f g : ℕ → ℕ) (n : ℕ) → ((i : ℕ) → i ≤ n → f i ≡ g i) → sum_through f n ≡ sum_through g n
sums_agree f g zero h = h 0 (omega arith)
sums_agree f g (suc n) h =
    let a : sum_through f n ≡ sum_through g n = sums_agree f g n (λ i k. h i (omega arith)) in
    let b : f (suc n) ≡ g (suc n) = h (suc n) (omega arith) in
    omega (arith, a, b)

same_start : (w : Width) (k : ℕ) (xs : List ℕ) → 0 < k → byte_len w ≤ k → from_le_bytes w (take k xs) ≡ from_le_bytes w xs
same_start w k xs p h =
    sums_agree (λ i. byte_worth i (get_or (take k xs) i 0)) (λ i. byte_worth i (get_or xs i 0)) (byte_len w - 1)
    (λ i l. ap (byte_worth i) (get_or-take k xs i 0 (omega arith)))

taken : (t : IntegerType) (xs : List ℕ) → from_le_bytes (storage t) (take (bytes t) xs) ≡ from_le_bytes (storage t) xs
taken types.Bool xs = same_start w8 1 xs (omega arith) (omega arith)
taken types.Char xs = same_start w8 1 xs (omega arith) (omega arith)
taken types.SignedChar xs = same_start w8 1 xs (omega arith) (omega arith)
taken types.UnsignedChar xs = same_start w8 1 xs (omega arith) (omega arith)
taken types.Short xs = same_start w16 2 xs (omega arith) (omega arith)
taken types.UnsignedShort xs = same_start w16 2 xs (omega arith) (omega arith)
taken types.Int xs = same_start w32 4 xs (omega arith) (omega arith)
taken types.UnsignedInt xs = same_start w32 4 xs (omega arith) (omega arith)
taken types.Long xs = same_start w64 8 xs (omega arith) (omega arith)
taken types.UnsignedLong xs = same_start w64 8 xs (omega arith) (omega arith)
taken types.LongLong xs = same_start w64 8 xs (omega arith) (omega arith)
taken types.UnsignedLongLong xs = same_start w64 8 xs (omega arith) (omega arith)

pub number_taken : (t : IntegerType) (offset : ℕ) (block : List ℕ) → number_of t (take (bytes t) (drop offset block)) ≡ number_at t offset block
number_taken t offset block = ap (read_bits t) (taken t (drop offset block))
