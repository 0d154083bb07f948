-- What the code computes in 64 bits, at a width of at most 64.
use Rattle.std.proofs.Common.{◌≡◌, ℕ, ◌+◌, ◌-◌, ◌*◌, ◌%◌, ◌^◌, ◌<◌, ◌≤◌, bit_and, arith, ◌∙◌, ap}
use Rattle.std.proofs.lemmas.Nat.{and_mask}
use Rattle.words.specs.Operators.{word_sum, word_difference, word_product, word_negation, left_shift, low_bits}
use Rattle.words.proofs.Powers.{mod-mod_narrower, mod_difference}

pub low_bits_mask : (w a m : ℕ) → m ≡ 2 ^ w - 1 → bit_and a m ≡ low_bits w a
unfolding low_bits
low_bits_mask w a m e = ap (bit_and a) e ∙ and_mask a w

pub low_bits_sum : (w a b : ℕ) → w ≤ 64 → low_bits w ((a + b) % 2 ^ 64) ≡ word_sum w a b
unfolding low_bits word_sum
low_bits_sum w a b h = mod-mod_narrower (a + b) w 64 h

pub low_bits_difference : (w a b : ℕ) → w ≤ 64 → b < 2 ^ w → low_bits w ((a + (2 ^ 64 - b)) % 2 ^ 64) ≡ word_difference w a b
unfolding low_bits word_difference
low_bits_difference w a b h l = mod-mod_narrower (a + (2 ^ 64 - b)) w 64 h ∙ mod_difference a b w 64 h l

pub low_bits_product : (w a b : ℕ) → w ≤ 64 → low_bits w ((a * b) % 2 ^ 64) ≡ word_product w a b
unfolding low_bits word_product
low_bits_product w a b h = mod-mod_narrower (a * b) w 64 h

pub low_bits_negation : (w a : ℕ) → w ≤ 64 → a < 2 ^ w → low_bits w ((0 + (2 ^ 64 - a)) % 2 ^ 64) ≡ word_negation w a
unfolding low_bits word_negation
low_bits_negation w a h l = mod-mod_narrower (0 + (2 ^ 64 - a)) w 64 h ∙ mod_difference 0 a w 64 h l ∙ ap (λ (n : ℕ). (n - a) % 2 ^ w) (omega arith)

pub low_bits_shift : (w a k : ℕ) → w ≤ 64 → low_bits w ((a * 2 ^ k) % 2 ^ 64) ≡ left_shift w a k
unfolding low_bits left_shift
low_bits_shift w a k h = mod-mod_narrower (a * 2 ^ k) w 64 h
