-- Shifts as products and quotients by powers of 2, one after another, and the arithmetic shift by the logical one.
use Rattle.std.proofs.Common.{◌≡◌, ℕ, ◌+◌, ◌-◌, ◌*◌, ◌/◌, ◌%◌, ◌^◌, ◌<◌, ◌≤◌, arith, refl, ◌∙◌, ap}
use Rattle.std.proofs.Math.Nat.{mod-eq_of_lt, div-eq_of_lt, mul-mod_left, div-le_self}
use Rattle.std.proofs.lemmas.Nat.{pow-add, shr-shr, mul-mod_first}
use Rattle.std.specs.Int.Signed.{shr_z}
use Rattle.std.proofs.lemmas.Bool.Decides.{nat_tests}
use Rattle.words.specs.BitVector.{signed_value}
use Rattle.words.specs.Operators.{wrapped, word_product, word_complement, left_shift, unsigned_quotient, logical_shift, arithmetic_shift}
use Rattle.words.proofs.Powers.{pow_grows, pow_split}
use Rattle.words.proofs.Signed.{signed_value_low, signed_value_high}

-- ---- powers of 2

pub left_shift-product : (w a k : ℕ) → left_shift w a k ≡ word_product w a (2 ^ k)
unfolding left_shift word_product
left_shift-product w a k = refl

pub logical_shift-quotient : (a k : ℕ) → logical_shift a k ≡ unsigned_quotient a (2 ^ k)
unfolding logical_shift unsigned_quotient
logical_shift-quotient a k = refl

-- ---- a shift by the width or more is 0

pub left_shift_out : (w a k : ℕ) → w ≤ k → left_shift w a k ≡ 0
unfolding left_shift
left_shift_out w a k h =
    let form : a * 2 ^ k ≡ (a * 2 ^ (k - w)) * 2 ^ w = omega (arith, ap (λ (n : ℕ). a * n) (pow_split w k h)) in
    ap (λ (n : ℕ). n % 2 ^ w) form ∙ mul-mod_left (a * 2 ^ (k - w)) (2 ^ w)

pub logical_shift_out : (w a k : ℕ) → a < 2 ^ w → w ≤ k → logical_shift a k ≡ 0
unfolding logical_shift
logical_shift_out w a k l h = div-eq_of_lt (omega (arith, pow_grows w k h))

pub arithmetic_shift_out : (w a k : ℕ) → w ≤ k → arithmetic_shift w a k ≡ 0
unfolding arithmetic_shift
arithmetic_shift_out w a k h = grind (arith, nat_tests)

-- ---- two shifts are one by the sum

pub left_shift-left_shift : (w a j k : ℕ) → left_shift w (left_shift w a j) k ≡ left_shift w a (j + k)
unfolding left_shift
left_shift-left_shift w a j k =
    mul-mod_first (a * 2 ^ j) (2 ^ k) (2 ^ w) ∙ ap (λ (n : ℕ). n % 2 ^ w) (omega (arith, ap (λ (n : ℕ). a * n) (pow-add 2 j k)))

pub logical_shift-logical_shift : (a j k : ℕ) → logical_shift (logical_shift a j) k ≡ logical_shift a (j + k)
unfolding logical_shift
logical_shift-logical_shift a j k = shr-shr a j k

-- ---- the arithmetic shift by the logical one

pub arithmetic_shift_low : (w a k : ℕ) → k < w → a < 2 ^ (w - 1) → arithmetic_shift w a k ≡ logical_shift a k
unfolding arithmetic_shift logical_shift wrapped
arithmetic_shift_low w a k h p =
    let below : a / 2 ^ k < 2 ^ w = omega (arith, div-le_self a (2 ^ k), pow_grows (w - 1) w (omega arith)) in
    let inner : wrapped w (shr_z (signed_value w a) (2 ^ k)) ≡ a / 2 ^ k = rw (signed_value_low w a p) (mod-eq_of_lt below) in
    grind (arith, nat_tests)

pub arithmetic_shift_high : (w a k : ℕ) → k < w → 2 ^ (w - 1) ≤ a → a < 2 ^ w → arithmetic_shift w a k ≡ word_complement w (logical_shift (word_complement w a) k)
unfolding arithmetic_shift logical_shift word_complement wrapped
arithmetic_shift_high w a k h q l =
    let below : (2 ^ w - 1 - a) / 2 ^ k < 2 ^ w = omega (arith, div-le_self (2 ^ w - 1 - a) (2 ^ k)) in
    let inner : wrapped w (shr_z (signed_value w a) (2 ^ k)) ≡ 2 ^ w - 1 - (2 ^ w - 1 - a) / 2 ^ k =
    rw (signed_value_high w a q l) (ap (λ (n : ℕ). 2 ^ w - 1 - n) (mod-eq_of_lt below)) in
    grind (arith, nat_tests)
