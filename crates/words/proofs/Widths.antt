-- Words at other widths.
use Rattle.std.proofs.Common.{◌≡◌, ℕ, suc, ◌+◌, ◌-◌, ◌%◌, ◌^◌, ◌<◌, ◌≤◌, ℤ, pos, negsuc, true, arith, ◌∙◌, ap}
use Rattle.std.proofs.Math.Nat.{mod-eq_of_lt}
use Rattle.std.proofs.lemmas.Nat.{mod_below, pow_pos}
use Rattle.std.proofs.lemmas.Bool.Decides.{nat_tests}
use Rattle.words.specs.BitVector.{signed_value}
use Rattle.words.specs.Operators.{wrapped, fits_width, low_bits, sign_extension}
use Rattle.words.proofs.Powers.{mod_complement, pow_grows, mod-mod_narrower}
use Rattle.words.proofs.Signed.{signed_value_low, signed_value_high}
use Rattle.words.proofs.Views.{wrapped-signed_value, signed_value-wrapped, fits_width-signed_value}

-- ---- cut

-- a word cut to its own width, or extended by zeros and cut back, is itself
pub low_bits_same : (w a : ℕ) → a < 2 ^ w → low_bits w a ≡ a
unfolding low_bits
low_bits_same w a h = mod-eq_of_lt h

-- to cut twice is to cut to the lesser width
pub low_bits-low_bits : (w v a : ℕ) → w ≤ v → low_bits w (low_bits v a) ≡ low_bits w a
unfolding low_bits
low_bits-low_bits w v a h = mod-mod_narrower a w v h

-- the low bits of a number modulo a greater power
pub low_bits-wrapped : (w v : ℕ) (z : ℤ) → w ≤ v → low_bits w (wrapped v z) ≡ wrapped w z
unfolding low_bits wrapped
low_bits-wrapped w v (pos n) h = mod-mod_narrower n w v h
low_bits-wrapped w v (negsuc n) h =
    let rest : n % 2 ^ v < 2 ^ v = mod_below n (2 ^ v) (pow_pos v) in
    let form : 2 ^ v - 1 - n % 2 ^ v ≡ 2 ^ v - suc (n % 2 ^ v) = omega arith in
    ap (λ (m : ℕ). m % 2 ^ w) form ∙ mod_complement (n % 2 ^ v) w v h rest ∙ ap (λ (m : ℕ). 2 ^ w - 1 - m) (mod-mod_narrower n w v h)

-- what is in range of a width is in range of each greater one
pub fits_wider : (w v : ℕ) (z : ℤ) → w ≤ v → fits_width w z ≡ true → fits_width v z ≡ true
unfolding fits_width
fits_wider w v (pos n) h f =
    let wider : 2 ^ (w - 1) ≤ 2 ^ (v - 1) = pow_grows (w - 1) (v - 1) (omega arith) in
    grind (arith, nat_tests)
fits_wider w v (negsuc n) h f =
    let wider : 2 ^ (w - 1) ≤ 2 ^ (v - 1) = pow_grows (w - 1) (v - 1) (omega arith) in
    grind (arith, nat_tests)

-- ---- sign extension

-- sign extension, cut back, is the word
pub low_bits-sign_extension : (w v a : ℕ) → 1 ≤ w → w ≤ v → a < 2 ^ w → low_bits w (sign_extension w v a) ≡ a
unfolding sign_extension
low_bits-sign_extension w v a h k l = low_bits-wrapped w v (signed_value w a) k ∙ wrapped-signed_value w a h l

-- it keeps the signed number
pub signed_value-sign_extension : (w v a : ℕ) → 1 ≤ w → w ≤ v → a < 2 ^ w → signed_value v (sign_extension w v a) ≡ signed_value w a
unfolding sign_extension
signed_value-sign_extension w v a h k l =
    signed_value-wrapped v (signed_value w a) (omega arith) (fits_wider w v (signed_value w a) k (fits_width-signed_value w a h l))

-- to the word's own width it changes nothing
pub sign_extension_same : (w a : ℕ) → 1 ≤ w → a < 2 ^ w → sign_extension w w a ≡ a
unfolding sign_extension
sign_extension_same w a h l = wrapped-signed_value w a h l

-- it copies the top bit: 0 leaves the bits, 1 adds those from w up to v
pub sign_extension_low : (w v a : ℕ) → w ≤ v → a < 2 ^ (w - 1) → sign_extension w v a ≡ a
unfolding sign_extension wrapped
sign_extension_low w v a k l = rw (signed_value_low w a l) (mod-eq_of_lt (omega (arith, pow_grows (w - 1) v (omega arith))))

pub sign_extension_high : (w v a : ℕ) → w ≤ v → 2 ^ (w - 1) ≤ a → a < 2 ^ w → sign_extension w v a ≡ a + (2 ^ v - 2 ^ w)
unfolding sign_extension wrapped
sign_extension_high w v a k q l =
    let wider : 2 ^ w ≤ 2 ^ v = pow_grows w v k in
    let small : (2 ^ w - 1 - a) % 2 ^ v ≡ 2 ^ w - 1 - a = mod-eq_of_lt (omega arith) in
    rw (signed_value_high w a q l, small) (omega arith)

-- a word extended by zeros isn't negative
pub signed_value-wider : (w v a : ℕ) → w < v → a < 2 ^ w → signed_value v a ≡ pos a
signed_value-wider w v a k l = signed_value_low v a (omega (arith, pow_grows w (v - 1) (omega arith)))

-- for `grind` and `search`
pub ruleset word_widths = (low_bits_same, low_bits-low_bits, low_bits-wrapped, low_bits-sign_extension, signed_value-sign_extension, sign_extension_same)
