-- Whether a signed result is in range, by the signs of the operands and of the result, as a machine without wider words tests it.
use Rattle.std.proofs.Common.{◌≡◌, ℕ, zero, suc, ◌+◌, ◌-◌, ◌*◌, ◌/◌, ◌%◌, ◌^◌, ◌<◌, ◌≤◌, pos, negsuc, neg_ℤ, ◌+ℤ◌, ◌-ℤ◌, true, not, nat_lt, nat_le, nat_eq, ◌&&◌, int_div, arith, sym, refl, ◌∙◌, ap, inl, inr}
use Rattle.std.proofs.Math.Nat.{mod-eq_of_lt, add-mul-mod_self_right, div-le_self, div-one}
use Rattle.std.proofs.lemmas.Nat.{pow_pos, div_below, mul-le}
use Rattle.std.proofs.lemmas.Bool.{cases_lt}
use Rattle.std.proofs.lemmas.Bool.Decides.{nat_tests}
use Rattle.std.proofs.lemmas.Int.{ints}
use Rattle.words.specs.BitVector.{signed_value}
use Rattle.words.specs.Operators.{fits_width, word_sum, word_difference, sum_fits, difference_fits, left_shift_fits}
use Rattle.words.proofs.Powers.{pow_doubled}
use Rattle.words.proofs.Signed.{signed_value_low, signed_value_high}
use Rattle.words.proofs.SignedBodies.{left_shift_test}

pub in_range_positive : (w n : ℕ) → n < 2 ^ (w - 1) → fits_width w (pos n) ≡ true
unfolding fits_width
in_range_positive w n h = grind (arith, nat_tests)

pub in_range_negative : (w n : ℕ) → n < 2 ^ (w - 1) → fits_width w (negsuc n) ≡ true
unfolding fits_width
in_range_negative w n h = grind (arith, nat_tests)

-- ---- sums

-- the sum of two numbers that aren't negative fits where it isn't negative
pub sum_fits_low : (w a b : ℕ) → 1 ≤ w → a < 2 ^ (w - 1) → b < 2 ^ (w - 1) → sum_fits w a b ≡ nat_lt (word_sum w a b) (2 ^ (w - 1))
unfolding sum_fits fits_width word_sum
sum_fits_low w a b h p q =
    let twice = pow_doubled w h in
    let whole : (a + b) % 2 ^ w ≡ a + b = mod-eq_of_lt (omega (arith, twice)) in
    rw (signed_value_low w a p, signed_value_low w b q, whole) refl

-- the sum of two negative numbers fits where it is negative
pub sum_fits_high : (w a b : ℕ) → 1 ≤ w → 2 ^ (w - 1) ≤ a → a < 2 ^ w → 2 ^ (w - 1) ≤ b → b < 2 ^ w → sum_fits w a b ≡ nat_le (2 ^ (w - 1)) (word_sum w a b)
unfolding sum_fits fits_width word_sum
sum_fits_high w a b h p k q l =
    let twice = pow_doubled w h in
    let form : a + b ≡ (a + b - 2 ^ w) + 1 * 2 ^ w = omega (arith, twice) in
    let whole : (a + b) % 2 ^ w ≡ a + b - 2 ^ w =
    ap (λ (n : ℕ). n % 2 ^ w) form ∙ add-mul-mod_self_right (a + b - 2 ^ w) 1 (2 ^ w) ∙ mod-eq_of_lt (omega (arith, twice)) in
    rw (signed_value_high w a p k, signed_value_high w b q l, whole) (grind (arith, nat_tests, twice))

-- the sum of numbers of two signs fits
pub sum_fits_mixed : (w a b : ℕ) → 1 ≤ w → a < 2 ^ (w - 1) → 2 ^ (w - 1) ≤ b → b < 2 ^ w → sum_fits w a b ≡ true
unfolding sum_fits
sum_fits_mixed w a b h p q l =
    let twice = pow_doubled w h in
    rw (signed_value_low w a p, signed_value_high w b q l)
    (elim (cases_lt a (2 ^ w - b)) [
      | inl r ↦ (let e : pos a +ℤ negsuc (2 ^ w - 1 - b) ≡ negsuc (2 ^ w - 1 - b - a) = omega (arith, ints) in ap (fits_width w) e ∙ in_range_negative w (2 ^ w - 1 - b - a) (omega (arith, twice)))
      | inr r ↦ (let e : pos a +ℤ negsuc (2 ^ w - 1 - b) ≡ pos (a - (2 ^ w - b)) = omega (arith, ints) in ap (fits_width w) e ∙ in_range_positive w (a - (2 ^ w - b)) (omega (arith, twice)))
    ])

pub sum_fits-comm : (w a b : ℕ) → sum_fits w a b ≡ sum_fits w b a
unfolding sum_fits
sum_fits-comm w a b = ap (fits_width w) (omega (arith, ints))

-- ---- differences

-- the difference of numbers of one sign fits
pub difference_fits_low : (w a b : ℕ) → 1 ≤ w → a < 2 ^ (w - 1) → b < 2 ^ (w - 1) → difference_fits w a b ≡ true
unfolding difference_fits
difference_fits_low w a b h p q =
    rw (signed_value_low w a p, signed_value_low w b q)
    (elim (cases_lt a b) [
      | inl r ↦ (let e : pos a -ℤ pos b ≡ negsuc (b - suc a) = omega (arith, ints) in ap (fits_width w) e ∙ in_range_negative w (b - suc a) (omega arith))
      | inr r ↦ (let e : pos a -ℤ pos b ≡ pos (a - b) = omega (arith, ints) in ap (fits_width w) e ∙ in_range_positive w (a - b) (omega arith))
    ])

pub difference_fits_high : (w a b : ℕ) → 1 ≤ w → 2 ^ (w - 1) ≤ a → a < 2 ^ w → 2 ^ (w - 1) ≤ b → b < 2 ^ w → difference_fits w a b ≡ true
unfolding difference_fits
difference_fits_high w a b h p k q l =
    let twice = pow_doubled w h in
    rw (signed_value_high w a p k, signed_value_high w b q l)
    (elim (cases_lt a b) [
      | inl r ↦ (let e : negsuc (2 ^ w - 1 - a) -ℤ negsuc (2 ^ w - 1 - b) ≡ negsuc (b - suc a) = omega (arith, ints) in ap (fits_width w) e ∙ in_range_negative w (b - suc a) (omega (arith, twice)))
      | inr r ↦ (let e : negsuc (2 ^ w - 1 - a) -ℤ negsuc (2 ^ w - 1 - b) ≡ pos (a - b) = omega (arith, ints) in ap (fits_width w) e ∙ in_range_positive w (a - b) (omega (arith, twice)))
    ])

-- a number that isn't negative, less a negative one: where the difference isn't negative
pub difference_fits_low_high : (w a b : ℕ) → 1 ≤ w → a < 2 ^ (w - 1) → 2 ^ (w - 1) ≤ b → b < 2 ^ w → difference_fits w a b ≡ nat_lt (word_difference w a b) (2 ^ (w - 1))
unfolding difference_fits fits_width word_difference
difference_fits_low_high w a b h p q l =
    let twice = pow_doubled w h in
    let whole : (a + 2 ^ w - b) % 2 ^ w ≡ a + 2 ^ w - b = mod-eq_of_lt (omega arith) in
    let e : pos a -ℤ negsuc (2 ^ w - 1 - b) ≡ pos (a + 2 ^ w - b) = omega (arith, ints) in
    rw (signed_value_low w a p, signed_value_high w b q l, whole) (ap (fits_width w) e)

-- a negative number, less one that isn't: where the difference is negative
pub difference_fits_high_low : (w a b : ℕ) → 1 ≤ w → 2 ^ (w - 1) ≤ a → a < 2 ^ w → b < 2 ^ (w - 1) → difference_fits w a b ≡ nat_le (2 ^ (w - 1)) (word_difference w a b)
unfolding difference_fits fits_width word_difference
difference_fits_high_low w a b h p k q =
    let twice = pow_doubled w h in
    let form : a + 2 ^ w - b ≡ (a - b) + 1 * 2 ^ w = omega arith in
    let whole : (a + 2 ^ w - b) % 2 ^ w ≡ a - b =
    ap (λ (n : ℕ). n % 2 ^ w) form ∙ add-mul-mod_self_right (a - b) 1 (2 ^ w) ∙ mod-eq_of_lt (omega arith) in
    let e : negsuc (2 ^ w - 1 - a) -ℤ pos b ≡ negsuc (2 ^ w - 1 - a + b) = omega (arith, ints) in
    rw (signed_value_high w a p k, signed_value_low w b q, whole) (ap (fits_width w) e ∙ grind (arith, nat_tests, twice))

negative_test : (w a : ℕ) → 1 ≤ w → 2 ^ (w - 1) ≤ a → a < 2 ^ w → nat_lt (word_difference w 0 a) (2 ^ (w - 1)) ≡ not (nat_eq a (2 ^ (w - 1)))
unfolding word_difference
negative_test w a h q l =
    let twice = pow_doubled w h in
    let whole : (0 + 2 ^ w - a) % 2 ^ w ≡ 0 + 2 ^ w - a = mod-eq_of_lt (omega (arith, pow_pos (w - 1))) in
    rw whole (grind (arith, nat_tests, twice))

-- a negation fits unless the number is the least
pub negation_fits : (w a : ℕ) → 1 ≤ w → a < 2 ^ w → difference_fits w 0 a ≡ not (nat_eq a (2 ^ (w - 1)))
negation_fits w a h l =
    elim (cases_lt a (2 ^ (w - 1))) [
      | inl p ↦ difference_fits_low w 0 a h (pow_pos (w - 1)) p ∙ grind (arith, nat_tests)
      | inr q ↦ difference_fits_low_high w 0 a h (pow_pos (w - 1)) q l ∙ negative_test w a h q l
    ]

-- ---- quotients

pub in_range_minus : (w n : ℕ) → n ≤ 2 ^ (w - 1) → fits_width w (neg_ℤ (pos n)) ≡ true
in_range_minus w zero h = in_range_positive w 0 (pow_pos (w - 1))
in_range_minus w (suc n) h = in_range_negative w n (omega arith)

-- a divisor from 2 on halves the dividend
halved : (n t m : ℕ) → n ≤ m → 0 < m → 1 ≤ t → n / suc t < m
halved n t m h z k =
    let enough : m * 2 ≤ m * suc t = mul-le m 2 m (suc t) (omega arith) (omega arith) in
    div_below n (suc t) m (omega arith) (omega arith)

by_minus_one : (w a b : ℕ) → 1 ≤ w → 2 ^ (w - 1) ≤ a → a < 2 ^ w → b ≡ 2 ^ w - 1 → fits_width w (pos (suc (2 ^ w - 1 - a) / suc (2 ^ w - 1 - b))) ≡ not (nat_eq a (2 ^ (w - 1)) && nat_eq b (2 ^ w - 1))
unfolding fits_width
by_minus_one w a b h p k e =
    let twice = pow_doubled w h in
    let one : suc (2 ^ w - 1 - b) ≡ 1 = omega arith in
    let whole : suc (2 ^ w - 1 - a) / suc (2 ^ w - 1 - b) ≡ suc (2 ^ w - 1 - a) = ap (λ (n : ℕ). suc (2 ^ w - 1 - a) / n) one ∙ div-one (suc (2 ^ w - 1 - a)) in
    rw whole (grind (arith, nat_tests, twice))

-- a quotient is out of range only where the least number is divided by -1
pub quotient_fits_unless : (w a b : ℕ) → 1 ≤ w → a < 2 ^ w → b < 2 ^ w → fits_width w (int_div (signed_value w a) (signed_value w b)) ≡ not (nat_eq a (2 ^ (w - 1)) && nat_eq b (2 ^ w - 1))
quotient_fits_unless w a b h k l =
    let twice = pow_doubled w h in
    let positive = pow_pos (w - 1) in
    elim (cases_lt a (2 ^ (w - 1))) [
      | inl p ↦
          elim (cases_lt b (2 ^ (w - 1))) [
            | inl q ↦
                rw (signed_value_low w a p, signed_value_low w b q)
                (in_range_positive w (a / b) (omega (arith, div-le_self a b)) ∙ grind (arith, nat_tests))
            | inr q ↦
                rw (signed_value_low w a p, signed_value_high w b q l)
                (in_range_minus w (a / suc (2 ^ w - 1 - b)) (omega (arith, div-le_self a (suc (2 ^ w - 1 - b)))) ∙ grind (arith, nat_tests))
          ]
      | inr p ↦
          elim (cases_lt b (2 ^ (w - 1))) [
            | inl q ↦
                rw (signed_value_high w a p k, signed_value_low w b q)
                (in_range_minus w (suc (2 ^ w - 1 - a) / b) (omega (arith, twice, div-le_self (suc (2 ^ w - 1 - a)) b)) ∙ grind (arith, nat_tests, twice, positive))
            | inr q ↦
                rw (signed_value_high w a p k, signed_value_high w b q l)
                (elim (cases_lt (2 ^ w - 1 - b) 1) [
                  | inl r ↦ by_minus_one w a b h p k (omega arith)
                  | inr r ↦
                      in_range_positive w (suc (2 ^ w - 1 - a) / suc (2 ^ w - 1 - b)) (halved (suc (2 ^ w - 1 - a)) (2 ^ w - 1 - b) (2 ^ (w - 1)) (omega (arith, twice)) positive r) ∙ grind (arith, nat_tests)
                ])
          ]
    ]

-- ---- left shifts

-- a left shift fits where the bits that reach the sign bit or leave the word are 0
pub left_shift_fits-high_bits : (w a k : ℕ) → 1 ≤ w → a < 2 ^ w → k < w → left_shift_fits w a k ≡ nat_eq (a / 2 ^ (w - 1 - k)) 0
left_shift_fits-high_bits w a k h l b = sym (left_shift_test w a k h l b)
