-- Sums and differences as adders make them, and what one bit more shows.
use Rattle.std.proofs.Common.{◌≡◌, ℕ, ◌+◌, ◌-◌, ◌*◌, ◌/◌, ◌%◌, ◌^◌, ◌<◌, ◌≤◌, nat_lt, nat_eq, arith, sym, ◌∙◌, ap}
use Rattle.std.proofs.Math.Nat.{mod-eq_of_lt, div-eq_of_lt, add-mul-mod_self_right, add-mod-mod, mod-add-mod, mod_self}
use Rattle.std.proofs.lemmas.Nat.{div-add-mod', pow_pos, le-div, div_below, mul-lt, pow-add}
use Rattle.std.proofs.lemmas.Bool.Decides.{nat_tests}
use Rattle.words.specs.Operators.{word_sum, word_difference, word_product, word_negation, word_complement, low_bits}
use Rattle.words.proofs.Powers.{pow_doubled, mod-mod_narrower}

power_before : (w : ℕ) → 2 ^ (w + 1 - 1) ≡ 2 ^ w
power_before w = ap (λ (n : ℕ). 2 ^ n) (omega arith)

quotient_below_two : (n m : ℕ) → 0 < m → n < m + m → n / m < 2
quotient_below_two n m h l = div_below n m 2 h (omega arith)

carry_test : (a b m : ℕ) → a < m → b < m → nat_eq ((a + m - b) / m) 0 ≡ nat_lt a b
carry_test a b m h k =
    let none : a < b → (a + m - b) / m ≡ 0 = λ l. div-eq_of_lt (omega arith) in
    let one : b ≤ a → 1 ≤ (a + m - b) / m = λ l. le-div 1 (a + m - b) m (omega arith) (omega arith) in
    grind (arith, nat_tests)

-- ---- differences by sums

-- a - b is a + not b + 1
pub word_difference-complement : (w a b : ℕ) → b < 2 ^ w → word_difference w a b ≡ (a + word_complement w b + 1) % 2 ^ w
unfolding word_difference word_complement
word_difference-complement w a b h = ap (λ (n : ℕ). n % 2 ^ w) (omega arith)

-- -b is not b + 1
pub word_negation-complement : (w b : ℕ) → b < 2 ^ w → word_negation w b ≡ word_sum w (word_complement w b) 1
unfolding word_negation word_sum word_complement
word_negation-complement w b h = ap (λ (n : ℕ). n % 2 ^ w) (omega arith)

-- a - b is a + (-b)
pub word_difference-negation : (w a b : ℕ) → b < 2 ^ w → word_difference w a b ≡ word_sum w a (word_negation w b)
unfolding word_difference word_sum word_negation
word_difference-negation w a b h =
    ap (λ (n : ℕ). n % 2 ^ w) (omega arith) ∙ sym (add-mod-mod a (2 ^ w - b) (2 ^ w))

-- -b is 0 - b
pub word_difference-from_zero : (w b : ℕ) → word_difference w 0 b ≡ word_negation w b
unfolding word_difference word_negation
word_difference-from_zero w b = ap (λ (n : ℕ). (n - b) % 2 ^ w) (omega arith)

word_sum_from_zero : (w b : ℕ) → b < 2 ^ w → word_sum w 0 b ≡ b
unfolding word_sum
word_sum_from_zero w b h = ap (λ (n : ℕ). n % 2 ^ w) (omega arith) ∙ mod-eq_of_lt h

-- a - b + b is a
pub word_sum-word_difference : (w a b : ℕ) → a < 2 ^ w → b < 2 ^ w → word_sum w (word_difference w a b) b ≡ a
unfolding word_sum word_difference
word_sum-word_difference w a b h k =
    let whole : (a + 2 ^ w - b) + b ≡ a + 1 * 2 ^ w = omega arith in
    mod-add-mod (a + 2 ^ w - b) (2 ^ w) b ∙ ap (λ (n : ℕ). n % 2 ^ w) whole ∙ add-mul-mod_self_right a 1 (2 ^ w) ∙ mod-eq_of_lt h

-- a - b is 0 exactly where a is b
pub word_difference_same : (w a : ℕ) → word_difference w a a ≡ 0
unfolding word_difference
word_difference_same w a =
    let whole : a + 2 ^ w - a ≡ 2 ^ w = omega arith in
    ap (λ (n : ℕ). n % 2 ^ w) whole ∙ mod_self (2 ^ w)

pub same_from_difference : (w a b : ℕ) → a < 2 ^ w → b < 2 ^ w → word_difference w a b ≡ 0 → a ≡ b
same_from_difference w a b h k e =
    sym (word_sum-word_difference w a b h k) ∙ ap (λ (n : ℕ). word_sum w n b) e ∙ word_sum_from_zero w b k

-- ---- one bit more

-- at one bit more the sum of two words doesn't wrap
pub word_sum_wider : (w a b : ℕ) → a < 2 ^ w → b < 2 ^ w → word_sum (w + 1) a b ≡ a + b
unfolding word_sum
word_sum_wider w a b h k = mod-eq_of_lt (omega (arith, pow_doubled (w + 1) (omega arith), power_before w))

-- the sum and its carry make up the whole sum
pub word_sum_carry : (w a b : ℕ) → (a + b) / 2 ^ w * 2 ^ w + word_sum w a b ≡ a + b
unfolding word_sum
word_sum_carry w a b = div-add-mod' (a + b) (2 ^ w)

-- the carry is 1 exactly where the sum wraps
pub carry_below_two : (w a b : ℕ) → a < 2 ^ w → b < 2 ^ w → (a + b) / 2 ^ w < 2
carry_below_two w a b h k = quotient_below_two (a + b) (2 ^ w) (pow_pos w) (omega arith)

-- the low bits of the sum at a greater width are the sum
pub low_bits-word_sum : (w v a b : ℕ) → w ≤ v → low_bits w (word_sum v a b) ≡ word_sum w a b
unfolding low_bits word_sum
low_bits-word_sum w v a b h = mod-mod_narrower (a + b) w v h

-- the low bits of the product at a greater width are the product
pub low_bits-word_product : (w v a b : ℕ) → w ≤ v → low_bits w (word_product v a b) ≡ word_product w a b
unfolding low_bits word_product
low_bits-word_product w v a b h = mod-mod_narrower (a * b) w v h

-- at twice the width the product of two words doesn't wrap
pub word_product_double : (w a b : ℕ) → a < 2 ^ w → b < 2 ^ w → word_product (w + w) a b ≡ a * b
unfolding word_product
word_product_double w a b h k =
    let below : a * b < 2 ^ w * 2 ^ w = mul-lt a b (2 ^ w) (2 ^ w) h k in
    mod-eq_of_lt (rw (pow-add 2 w w) below)

-- ---- order by a difference

-- a is below b exactly where a + not b + 1 has no carry
pub below_by_carry : (w a b : ℕ) → a < 2 ^ w → b < 2 ^ w → nat_lt a b ≡ nat_eq ((a + word_complement w b + 1) / 2 ^ w) 0
unfolding word_complement
below_by_carry w a b h k =
    let sum : a + (2 ^ w - 1 - b) + 1 ≡ a + 2 ^ w - b = omega arith in
    sym (ap (λ (n : ℕ). nat_eq (n / 2 ^ w) 0) sum ∙ carry_test a b (2 ^ w) h k)
