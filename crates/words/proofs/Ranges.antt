-- The value of each operator is below 2 ^ w, so it is a word.
use Rattle.std.proofs.Common.{ℕ, ◌+◌, ◌-◌, ◌*◌, ◌^◌, ◌<◌, ◌≤◌, ℤ, pos, negsuc, Bool, true, false, cond, nat_lt, nat_eq, bit_and, bit_or, bit_xor, arith}
use Rattle.std.proofs.Math.Nat.{div-le_self, mod-le}
use Rattle.std.proofs.lemmas.Nat.{mod_below, pow_pos, and_le_l, or_lt, xor_lt}
use Rattle.std.proofs.lemmas.Bool.Decides.{nat_tests}
use Rattle.words.specs.BitVector.{BitVector, IsWord, word}
use Rattle.words.specs.Operators.{wrapped, word_sum, word_difference, word_product, word_negation, word_complement, left_shift, low_bits, unsigned_quotient, unsigned_remainder, logical_shift, signed_quotient, signed_remainder, arithmetic_shift, sign_extension}
use Rattle.words.proofs.Powers.{pow_grows}

-- ---- words from bounds

-- other bits at the width of a word
pub IsWord-word : (v : BitVector) (n : ℕ) → IsWord v → n < 2 ^ v.width → IsWord (word v.width n)
IsWord-word v n h l = record { positive = h.positive; at_most_64 = h.at_most_64; within = l }

-- 0 and 1 are bits of each width
pub pow_above_one : (w : ℕ) → 1 ≤ w → 1 < 2 ^ w
pow_above_one w h = omega (arith, pow_grows 1 w h)

-- the bits of a word are bits of each greater width
pub below_wider : (w v a : ℕ) → w ≤ v → a < 2 ^ w → a < 2 ^ v
below_wider w v a h l = omega (arith, pow_grows w v h)

choice_below : (b : Bool) {m n k : ℕ} → m < k → n < k → cond b m n < k
choice_below true p q = p
choice_below false p q = q

-- ---- the operators

pub low_bits_below : (w a : ℕ) → low_bits w a < 2 ^ w
unfolding low_bits
low_bits_below w a = mod_below a (2 ^ w) (pow_pos w)

pub wrapped_below : (w : ℕ) (z : ℤ) → wrapped w z < 2 ^ w
unfolding wrapped
wrapped_below w (pos n) = mod_below n (2 ^ w) (pow_pos w)
wrapped_below w (negsuc n) = omega (arith, pow_pos w)

pub word_sum_below : (w a b : ℕ) → word_sum w a b < 2 ^ w
unfolding word_sum
word_sum_below w a b = mod_below (a + b) (2 ^ w) (pow_pos w)

pub word_difference_below : (w a b : ℕ) → word_difference w a b < 2 ^ w
unfolding word_difference
word_difference_below w a b = mod_below (a + 2 ^ w - b) (2 ^ w) (pow_pos w)

pub word_product_below : (w a b : ℕ) → word_product w a b < 2 ^ w
unfolding word_product
word_product_below w a b = mod_below (a * b) (2 ^ w) (pow_pos w)

pub word_negation_below : (w a : ℕ) → word_negation w a < 2 ^ w
unfolding word_negation
word_negation_below w a = mod_below (2 ^ w - a) (2 ^ w) (pow_pos w)

pub word_complement_below : (w a : ℕ) → word_complement w a < 2 ^ w
unfolding word_complement
word_complement_below w a = omega (arith, pow_pos w)

pub left_shift_below : (w a k : ℕ) → left_shift w a k < 2 ^ w
unfolding left_shift
left_shift_below w a k = mod_below (a * 2 ^ k) (2 ^ w) (pow_pos w)

pub unsigned_quotient_below : (w a b : ℕ) → a < 2 ^ w → unsigned_quotient a b < 2 ^ w
unfolding unsigned_quotient
unsigned_quotient_below w a b h = omega (arith, div-le_self a b)

pub unsigned_remainder_below : (w a b : ℕ) → a < 2 ^ w → unsigned_remainder a b < 2 ^ w
unfolding unsigned_remainder
unsigned_remainder_below w a b h = grind (arith, nat_tests, pow_pos w, mod-le a b)

pub logical_shift_below : (w a k : ℕ) → a < 2 ^ w → logical_shift a k < 2 ^ w
unfolding logical_shift
logical_shift_below w a k h = omega (arith, div-le_self a (2 ^ k))

pub signed_quotient_below : (w a b : ℕ) → signed_quotient w a b < 2 ^ w
unfolding signed_quotient
signed_quotient_below w a b = wrapped_below w _

pub signed_remainder_below : (w a b : ℕ) → signed_remainder w a b < 2 ^ w
unfolding signed_remainder
signed_remainder_below w a b = choice_below (nat_eq b 0) (pow_pos w) (wrapped_below w _)

pub arithmetic_shift_below : (w a k : ℕ) → arithmetic_shift w a k < 2 ^ w
unfolding arithmetic_shift
arithmetic_shift_below w a k = choice_below (nat_lt k w) (wrapped_below w _) (pow_pos w)

pub sign_extension_below : (w v a : ℕ) → sign_extension w v a < 2 ^ v
unfolding sign_extension
sign_extension_below w v a = wrapped_below v _

pub bit_and_below : (w a b : ℕ) → a < 2 ^ w → bit_and a b < 2 ^ w
bit_and_below w a b h = omega (arith, and_le_l a b)

pub bit_or_below : (w a b : ℕ) → a < 2 ^ w → b < 2 ^ w → bit_or a b < 2 ^ w
bit_or_below w a b h l = or_lt w a b h l

pub bit_xor_below : (w a b : ℕ) → a < 2 ^ w → b < 2 ^ w → bit_xor a b < 2 ^ w
bit_xor_below w a b h l = xor_lt w a b h l

-- for `grind` and `search`
pub ruleset word_ranges = (IsWord-word, pow_above_one, low_bits_below, wrapped_below, word_sum_below, word_difference_below, word_product_below, word_negation_below, word_complement_below, left_shift_below, unsigned_quotient_below, unsigned_remainder_below, logical_shift_below, signed_quotient_below, signed_remainder_below, arithmetic_shift_below, sign_extension_below, bit_and_below, bit_or_below, bit_xor_below)
