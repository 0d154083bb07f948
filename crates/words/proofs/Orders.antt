-- Signed order as unsigned order, and the signs of sums and differences.
use Rattle.std.proofs.Common.{◌≡◌, ℕ, ◌+◌, ◌-◌, ◌*◌, ◌/◌, ◌%◌, ◌^◌, ◌<◌, ◌≤◌, pos, nat_lt, nat_le, int_lt, bit_xor, arith, refl, sym, ◌∙◌, ap, inl, inr}
use Rattle.std.proofs.Math.Nat.{mod-eq_of_lt, add-mul-mod_self_right, div-eq_of_lt}
use Rattle.std.proofs.lemmas.Nat.{pow_pos, xor_block, le-div, div_below}
use Rattle.std.specs.Int.Bits.{xor_zero_r}
use Rattle.std.proofs.lemmas.Bool.{cases_lt}
use Rattle.std.proofs.lemmas.Bool.Decides.{nat_tests}
use Rattle.words.specs.BitVector.{signed_value}
use Rattle.words.specs.Operators.{word_sum, signed_lt}
use Rattle.words.proofs.Powers.{pow_doubled}
use Rattle.words.proofs.Signed.{signed_value_low, signed_value_high}

-- ---- the top bit

-- it is 0 where the signed number isn't negative, else 1
pub top_bit_low : (w a : ℕ) → a < 2 ^ (w - 1) → a / 2 ^ (w - 1) ≡ 0
top_bit_low w a h = div-eq_of_lt h

pub top_bit_high : (w a : ℕ) → 1 ≤ w → 2 ^ (w - 1) ≤ a → a < 2 ^ w → a / 2 ^ (w - 1) ≡ 1
top_bit_high w a h q l =
    let twice = pow_doubled w h in
    let least : 1 ≤ a / 2 ^ (w - 1) = le-div 1 a (2 ^ (w - 1)) (pow_pos (w - 1)) (omega arith) in
    let below : a / 2 ^ (w - 1) < 2 = div_below a (2 ^ (w - 1)) 2 (pow_pos (w - 1)) (omega (arith, twice)) in
    omega arith

pub negative_test : (w a : ℕ) → 1 ≤ w → a < 2 ^ w → int_lt (signed_value w a) (pos 0) ≡ nat_le (2 ^ (w - 1)) a
negative_test w a h l =
    elim (cases_lt a (2 ^ (w - 1))) [
      | inl p ↦ rw (signed_value_low w a p) (grind (arith, nat_tests))
      | inr q ↦ rw (signed_value_high w a q l) (grind (arith, nat_tests))
    ]

-- ---- the top bit turned over, by a sum with 2 ^ (w - 1)

flipped_low : (w a : ℕ) → 1 ≤ w → a < 2 ^ (w - 1) → word_sum w a (2 ^ (w - 1)) ≡ a + 2 ^ (w - 1)
unfolding word_sum
flipped_low w a h p = mod-eq_of_lt (omega (arith, pow_doubled w h))

flipped_high : (w a : ℕ) → 1 ≤ w → 2 ^ (w - 1) ≤ a → a < 2 ^ w → word_sum w a (2 ^ (w - 1)) ≡ a - 2 ^ (w - 1)
unfolding word_sum
flipped_high w a h q l =
    let twice = pow_doubled w h in
    let form : a + 2 ^ (w - 1) ≡ (a - 2 ^ (w - 1)) + 1 * 2 ^ w = omega (arith, twice) in
    ap (λ (n : ℕ). n % 2 ^ w) form ∙ add-mul-mod_self_right (a - 2 ^ (w - 1)) 1 (2 ^ w) ∙ mod-eq_of_lt (omega arith)

xor_place : (k i r : ℕ) → r < 2 ^ k → bit_xor (i * 2 ^ k + r) (2 ^ k) ≡ bit_xor i 1 * 2 ^ k + r
xor_place k i r h =
    let top : 1 * 2 ^ k + 0 ≡ 2 ^ k = omega arith in
    ap (bit_xor (i * 2 ^ k + r)) (sym top) ∙ xor_block k i 1 r 0 h (pow_pos k) ∙ ap (λ (n : ℕ). bit_xor i 1 * 2 ^ k + n) (xor_zero_r r)

-- the same by an exclusive or
pub bit_xor_top : (w a : ℕ) → 1 ≤ w → a < 2 ^ w → bit_xor a (2 ^ (w - 1)) ≡ word_sum w a (2 ^ (w - 1))
bit_xor_top w a h l =
    elim (cases_lt a (2 ^ (w - 1))) [
      | inl p ↦
          (let form : a ≡ 0 * 2 ^ (w - 1) + a = omega arith in
          ap (λ (n : ℕ). bit_xor n (2 ^ (w - 1))) form ∙ xor_place (w - 1) 0 a p ∙ omega (arith, flipped_low w a h p))
      | inr q ↦
          (let twice = pow_doubled w h in
          let form : a ≡ 1 * 2 ^ (w - 1) + (a - 2 ^ (w - 1)) = omega arith in
          ap (λ (n : ℕ). bit_xor n (2 ^ (w - 1))) form ∙ xor_place (w - 1) 1 (a - 2 ^ (w - 1)) (omega (arith, twice)) ∙ omega (arith, flipped_high w a h q l))
    ]

-- signed order is unsigned order with the top bits turned over
pub signed_lt-flipped : (w a b : ℕ) → 1 ≤ w → a < 2 ^ w → b < 2 ^ w → signed_lt w a b ≡ nat_lt (word_sum w a (2 ^ (w - 1))) (word_sum w b (2 ^ (w - 1)))
unfolding signed_lt
signed_lt-flipped w a b h k l =
    elim (cases_lt a (2 ^ (w - 1))) [
      | inl p ↦
          elim (cases_lt b (2 ^ (w - 1))) [
            | inl q ↦ rw (signed_value_low w a p, signed_value_low w b q, flipped_low w a h p, flipped_low w b h q) (grind (arith, nat_tests))
            | inr q ↦ rw (signed_value_low w a p, signed_value_high w b q l, flipped_low w a h p, flipped_high w b h q l) (grind (arith, nat_tests, pow_doubled w h))
          ]
      | inr p ↦
          elim (cases_lt b (2 ^ (w - 1))) [
            | inl q ↦ rw (signed_value_high w a p k, signed_value_low w b q, flipped_high w a h p k, flipped_low w b h q) (grind (arith, nat_tests, pow_doubled w h))
            | inr q ↦ rw (signed_value_high w a p k, signed_value_high w b q l, flipped_high w a h p k, flipped_high w b h q l) (grind (arith, nat_tests))
          ]
    ]

-- words of one sign are in signed order as in unsigned order
pub signed_lt_low : (w a b : ℕ) → a < 2 ^ (w - 1) → b < 2 ^ (w - 1) → signed_lt w a b ≡ nat_lt a b
unfolding signed_lt
signed_lt_low w a b p q = rw (signed_value_low w a p, signed_value_low w b q) refl
