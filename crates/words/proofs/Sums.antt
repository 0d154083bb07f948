-- Sums and products modulo 2 ^ w: it is enough to wrap once, at the end.
use Rattle.std.proofs.Common.{◌≡◌, ℕ, ◌+◌, ◌*◌, ◌%◌, ◌^◌, ◌<◌, arith, sym, ◌∙◌, ap}
use Rattle.std.proofs.Math.Nat.{mod-add-mod, add-mod-mod, mod-eq_of_lt, zero-mod}
use Rattle.std.proofs.lemmas.Nat.{mul-mod_first, mul-mod_second}
use Rattle.words.specs.Operators.{low_bits, left_shift, word_sum, word_product}

-- ---- operands may be cut first

pub word_sum-low_bits_left : (w a b : ℕ) → word_sum w (low_bits w a) b ≡ word_sum w a b
unfolding word_sum low_bits
word_sum-low_bits_left w a b = mod-add-mod a (2 ^ w) b

pub word_sum-low_bits_right : (w a b : ℕ) → word_sum w a (low_bits w b) ≡ word_sum w a b
unfolding word_sum low_bits
word_sum-low_bits_right w a b = add-mod-mod a b (2 ^ w)

pub word_product-low_bits_left : (w a b : ℕ) → word_product w (low_bits w a) b ≡ word_product w a b
unfolding word_product low_bits
word_product-low_bits_left w a b = mul-mod_first a b (2 ^ w)

pub word_product-low_bits_right : (w a b : ℕ) → word_product w a (low_bits w b) ≡ word_product w a b
unfolding word_product low_bits
word_product-low_bits_right w a b = mul-mod_second a b (2 ^ w)

-- ---- order and grouping make no difference

pub word_sum_comm : (w a b : ℕ) → word_sum w a b ≡ word_sum w b a
unfolding word_sum
word_sum_comm w a b = ap (λ (n : ℕ). n % 2 ^ w) (omega arith)

pub word_sum_assoc : (w a b c : ℕ) → word_sum w (word_sum w a b) c ≡ word_sum w a (word_sum w b c)
unfolding word_sum
word_sum_assoc w a b c =
    mod-add-mod (a + b) (2 ^ w) c ∙ ap (λ (n : ℕ). n % 2 ^ w) (omega arith) ∙ sym (add-mod-mod a (b + c) (2 ^ w))

pub word_product_comm : (w a b : ℕ) → word_product w a b ≡ word_product w b a
unfolding word_product
word_product_comm w a b = ap (λ (n : ℕ). n % 2 ^ w) (omega arith)

pub word_product_assoc : (w a b c : ℕ) → word_product w (word_product w a b) c ≡ word_product w a (word_product w b c)
unfolding word_product
word_product_assoc w a b c =
    mul-mod_first (a * b) c (2 ^ w) ∙ ap (λ (n : ℕ). n % 2 ^ w) (omega arith) ∙ sym (mul-mod_second a (b * c) (2 ^ w))

pub word_product-word_sum : (w a b c : ℕ) → word_product w a (word_sum w b c) ≡ word_sum w (word_product w a b) (word_product w a c)
unfolding word_product word_sum
word_product-word_sum w a b c =
    mul-mod_second a (b + c) (2 ^ w)
    ∙ ap (λ (n : ℕ). n % 2 ^ w) (omega arith)
    ∙ sym (mod-add-mod (a * b) (2 ^ w) ((a * c) % 2 ^ w) ∙ add-mod-mod (a * b) (a * c) (2 ^ w))

-- ---- the zero and the one

pub word_sum_zero : (w a : ℕ) → a < 2 ^ w → word_sum w a 0 ≡ a
unfolding word_sum
word_sum_zero w a h = ap (λ (n : ℕ). n % 2 ^ w) (omega arith) ∙ mod-eq_of_lt h

pub word_product_zero : (w a : ℕ) → word_product w a 0 ≡ 0
unfolding word_product
word_product_zero w a = ap (λ (n : ℕ). n % 2 ^ w) (omega arith) ∙ zero-mod (2 ^ w)

pub word_product_one : (w a : ℕ) → a < 2 ^ w → word_product w a 1 ≡ a
unfolding word_product
word_product_one w a h = ap (λ (n : ℕ). n % 2 ^ w) (omega arith) ∙ mod-eq_of_lt h

-- ---- a product by shifts and sums, from the lowest bit r of the second factor

pub word_product_step : (w a q r : ℕ) → word_product w a (2 * q + r) ≡ word_sum w (word_product w (left_shift w a 1) q) (word_product w a r)
unfolding word_product word_sum left_shift
word_product_step w a q r =
    ap (λ (n : ℕ). n % 2 ^ w) (omega arith)
    ∙ sym
    (ap (λ (n : ℕ). (n + (a * r) % 2 ^ w) % 2 ^ w) (mul-mod_first (a * 2 ^ 1) q (2 ^ w))
    ∙ mod-add-mod (a * 2 ^ 1 * q) (2 ^ w) ((a * r) % 2 ^ w)
    ∙ add-mod-mod (a * 2 ^ 1 * q) (a * r) (2 ^ w))
