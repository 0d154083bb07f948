-- The operators bit by bit. `bit_at n i` is bit i of n, from the lowest; those of `bit_and`, `bit_or` and `bit_xor` are in std's lemmas on one bit.
use Rattle.std.proofs.Common.{◌≡◌, ℕ, suc, ◌+◌, ◌-◌, ◌*◌, ◌/◌, ◌%◌, ◌^◌, ◌<◌, ◌≤◌, min, arith, sym, ◌∙◌, ap, inl, inr}
use Rattle.std.proofs.lemmas.Nat.{div-add-mod', div-mul-add, mod_below, pow_pos, shr-shr, div_below}
use Rattle.std.proofs.lemmas.Nat.Bits.{bit_at_cat_low, bit_at_cat_high, bit_at_above, bit_at_ones, bit_at-zero, bit_at-lt}
use Rattle.std.proofs.lemmas.Bool.{cases_lt}
use Rattle.std.specs.Int.{bit_at}
use Rattle.words.specs.Operators.{word_complement, low_bits, left_shift, logical_shift, arithmetic_shift, sign_extension}
use Rattle.words.proofs.Powers.{pow_split, pow_doubled}
use Rattle.words.proofs.Orders.{top_bit_high}
use Rattle.words.proofs.Ranges.{word_complement_below, logical_shift_below}
use Rattle.words.proofs.Shifts.{arithmetic_shift_low, arithmetic_shift_high}
use Rattle.words.proofs.Widths.{sign_extension_low, sign_extension_high}

pub bit_at-low_bits : (w a i : ℕ) → i < w → bit_at (low_bits w a) i ≡ bit_at a i
unfolding low_bits
bit_at-low_bits w a i h =
    sym (bit_at_cat_low (a / 2 ^ w) w (a % 2 ^ w) i h) ∙ ap (λ (n : ℕ). bit_at n i) (div-add-mod' a (2 ^ w))

pub bit_at-left_shift_low : (w a k i : ℕ) → i < w → i < k → bit_at (left_shift w a k) i ≡ 0
unfolding left_shift low_bits
bit_at-left_shift_low w a k i h l =
    let whole : a * 2 ^ k ≡ a * 2 ^ k + 0 = omega arith in
    bit_at-low_bits w (a * 2 ^ k) i h ∙ ap (λ (n : ℕ). bit_at n i) whole ∙ bit_at_cat_low a k 0 i l ∙ bit_at-zero i

pub bit_at-left_shift_high : (w a k i : ℕ) → i < w → k ≤ i → bit_at (left_shift w a k) i ≡ bit_at a (i - k)
unfolding left_shift low_bits
bit_at-left_shift_high w a k i h l =
    let whole : a * 2 ^ k ≡ a * 2 ^ k + 0 = omega arith in
    bit_at-low_bits w (a * 2 ^ k) i h ∙ ap (λ (n : ℕ). bit_at n i) whole ∙ bit_at_cat_high a k 0 i (pow_pos k) l

pub bit_at-logical_shift : (a k i : ℕ) → bit_at (logical_shift a k) i ≡ bit_at a (k + i)
unfolding logical_shift
bit_at-logical_shift a k i = ap (λ (n : ℕ). n % 2) (shr-shr a k i)

-- the quotient of a complement is the complement of the quotient
complement_quotient : (w a i : ℕ) → i ≤ w → a < 2 ^ w → (2 ^ w - 1 - a) / 2 ^ i ≡ 2 ^ (w - i) - 1 - a / 2 ^ i
complement_quotient w a i h l =
    let split : 2 ^ w ≡ 2 ^ (w - i) * 2 ^ i = pow_split i w h in
    let parts : a / 2 ^ i * 2 ^ i + a % 2 ^ i ≡ a = div-add-mod' a (2 ^ i) in
    let rest : a % 2 ^ i < 2 ^ i = mod_below a (2 ^ i) (pow_pos i) in
    let below : a / 2 ^ i < 2 ^ (w - i) = div_below a (2 ^ i) (2 ^ (w - i)) (pow_pos i) (omega arith) in
    let count : 2 ^ (w - i) ≡ suc (a / 2 ^ i + (2 ^ (w - i) - 1 - a / 2 ^ i)) = omega arith in
    let scaled : 2 ^ w ≡ suc (a / 2 ^ i + (2 ^ (w - i) - 1 - a / 2 ^ i)) * 2 ^ i = split ∙ ap (λ (n : ℕ). n * 2 ^ i) count in
    let form : 2 ^ w - 1 - a ≡ (2 ^ (w - i) - 1 - a / 2 ^ i) * 2 ^ i + (2 ^ i - 1 - a % 2 ^ i) = omega arith in
    ap (λ (n : ℕ). n / 2 ^ i) form ∙ div-mul-add (2 ^ (w - i) - 1 - a / 2 ^ i) (2 ^ i) (2 ^ i - 1 - a % 2 ^ i) (omega arith)

-- the last bit of a complement in an even number
odd_complement : (m h q : ℕ) → m ≡ h + h → q < m → (m - 1 - q) % 2 ≡ 1 - q % 2
odd_complement m h q e l = omega arith

pub bit_at-word_complement : (w a i : ℕ) → a < 2 ^ w → i < w → bit_at (word_complement w a) i ≡ 1 - bit_at a i
unfolding word_complement
bit_at-word_complement w a i l h =
    let below : a / 2 ^ i < 2 ^ (w - i) = div_below a (2 ^ i) (2 ^ (w - i)) (pow_pos i) (omega (arith, pow_split i w (omega arith))) in
    ap (λ (n : ℕ). n % 2) (complement_quotient w a i (omega arith) l)
    ∙ odd_complement (2 ^ (w - i)) (2 ^ (w - i - 1)) (a / 2 ^ i) (pow_doubled (w - i) (omega arith)) below

-- the top bit of a word
top_low : (w a : ℕ) → a < 2 ^ (w - 1) → bit_at a (w - 1) ≡ 0
top_low w a p = bit_at_above a (w - 1) (w - 1) p (omega arith)

top_high : (w a : ℕ) → 1 ≤ w → 2 ^ (w - 1) ≤ a → a < 2 ^ w → bit_at a (w - 1) ≡ 1
top_high w a h q l = ap (λ (n : ℕ). n % 2) (top_bit_high w a h q l)

twice_turned : (n : ℕ) → n < 2 → 1 - (1 - n) ≡ n
twice_turned n h = omega arith

shifted_complement : (w a k i : ℕ) → a < 2 ^ w → i < w → bit_at (word_complement w (logical_shift (word_complement w a) k)) i ≡ 1 - bit_at (word_complement w a) (k + i)
shifted_complement w a k i l b =
    let below : logical_shift (word_complement w a) k < 2 ^ w = logical_shift_below w (word_complement w a) k (word_complement_below w a) in
    bit_at-word_complement w (logical_shift (word_complement w a) k) i below b ∙ ap (λ (n : ℕ). 1 - n) (bit_at-logical_shift (word_complement w a) k i)

-- the ones above a word, and the word
joined : (w v a : ℕ) → w ≤ v → a + (2 ^ v - 2 ^ w) ≡ (2 ^ (v - w) - 1) * 2 ^ w + a
joined w v a h =
    let split : 2 ^ v ≡ 2 ^ (v - w) * 2 ^ w = pow_split w v h in
    let count : 2 ^ (v - w) ≡ suc (2 ^ (v - w) - 1) = omega (arith, pow_pos (v - w)) in
    let scaled : 2 ^ v ≡ suc (2 ^ (v - w) - 1) * 2 ^ w = split ∙ ap (λ (n : ℕ). n * 2 ^ w) count in
    omega arith

-- an arithmetic shift copies the top bit
pub bit_at-arithmetic_shift : (w a k i : ℕ) → a < 2 ^ w → k < w → i < w → bit_at (arithmetic_shift w a k) i ≡ bit_at a (min (k + i) (w - 1))
bit_at-arithmetic_shift w a k i l h b =
    elim (cases_lt a (2 ^ (w - 1))) [
      | inl p ↦
          rw (arithmetic_shift_low w a k h p, bit_at-logical_shift a k i)
          (elim (cases_lt (k + i) w) [
            | inl r ↦ ap (bit_at a) (omega arith)
            | inr r ↦
                (let place : w - 1 ≡ min (k + i) (w - 1) = omega arith in
                bit_at_above a w (k + i) l r ∙ sym (top_low w a p) ∙ ap (bit_at a) place)
          ])
      | inr q ↦
          rw (arithmetic_shift_high w a k h q l)
          (elim (cases_lt (k + i) w) [
            | inl r ↦
                (let place : k + i ≡ min (k + i) (w - 1) = omega arith in
                shifted_complement w a k i l b ∙ ap (λ (n : ℕ). 1 - n) (bit_at-word_complement w a (k + i) l r) ∙ twice_turned (bit_at a (k + i)) (bit_at-lt a (k + i)) ∙ ap (bit_at a) place)
            | inr r ↦
                (let place : w - 1 ≡ min (k + i) (w - 1) = omega arith in
                shifted_complement w a k i l b ∙ ap (λ (n : ℕ). 1 - n) (bit_at_above (word_complement w a) w (k + i) (word_complement_below w a) r) ∙ sym (top_high w a (omega arith) q l) ∙ ap (bit_at a) place)
          ])
    ]

-- sign extension copies the top bit
pub bit_at-sign_extension : (w v a i : ℕ) → 1 ≤ w → w ≤ v → a < 2 ^ w → i < v → bit_at (sign_extension w v a) i ≡ bit_at a (min i (w - 1))
bit_at-sign_extension w v a i h k l b =
    elim (cases_lt a (2 ^ (w - 1))) [
      | inl p ↦
          rw (sign_extension_low w v a k p)
          (elim (cases_lt i w) [
            | inl r ↦ ap (bit_at a) (omega arith)
            | inr r ↦
                (let place : w - 1 ≡ min i (w - 1) = omega arith in
                bit_at_above a w i l r ∙ sym (top_low w a p) ∙ ap (bit_at a) place)
          ])
      | inr q ↦
          (let form : a + (2 ^ v - 2 ^ w) ≡ (2 ^ (v - w) - 1) * 2 ^ w + a = joined w v a k in
          rw (sign_extension_high w v a k q l, form)
          (elim (cases_lt i w) [
            | inl r ↦ bit_at_cat_low (2 ^ (v - w) - 1) w a i r ∙ ap (bit_at a) (omega arith)
            | inr r ↦
                (let place : w - 1 ≡ min i (w - 1) = omega arith in
                bit_at_cat_high (2 ^ (v - w) - 1) w a i l r ∙ bit_at_ones (v - w) (i - w) (omega arith) ∙ sym (top_high w a h q l) ∙ ap (bit_at a) place)
          ]))
    ]
