-- The unsigned and the signed number of a word determine each other, and the operators that go by the bits are right for both.
use Rattle.std.proofs.Common.{◌≡◌, ℕ, zero, suc, ◌+◌, ◌-◌, ◌*◌, ◌/◌, ◌%◌, ◌^◌, ◌<◌, ◌≤◌, ℤ, pos, negsuc, neg_ℤ, ◌+ℤ◌, ◌-ℤ◌, ◌*ℤ◌, true, arith, refl, sym, ◌∙◌, ap, inl, inr}
use Rattle.std.proofs.Math.Nat.{mod-eq_of_lt, zero-mod, mul-mod_left, add-mul-mod_self_right, lt_of_mul-lt-mul_right}
use Rattle.std.proofs.lemmas.Nat.{mod-mul-add, div-add-mod', mod_below, pow_pos}
use Rattle.std.proofs.lemmas.Int.{ints}
use Rattle.std.proofs.lemmas.Bool.{cases_lt}
use Rattle.std.proofs.lemmas.Bool.Decides.{nat_tests}
use Rattle.words.specs.BitVector.{signed_value}
use Rattle.words.specs.Operators.{wrapped, fits_width, word_sum, word_difference, word_product, sum_fits, difference_fits, product_fits}
use Rattle.words.proofs.Powers.{pow_doubled}
use Rattle.words.proofs.Signed.{signed_value_low, signed_value_high}

-- ---- a number modulo 2 ^ w

-- -n modulo 2 ^ w, by a number m that completes n to a multiple
pub wrapped_opposite : (w n k m : ℕ) → n + m ≡ k * 2 ^ w → wrapped w (neg_ℤ (pos n)) ≡ m % 2 ^ w
unfolding wrapped
wrapped_opposite w zero k m e =
    let whole : m ≡ k * 2 ^ w = omega arith in
    zero-mod (2 ^ w) ∙ sym (mul-mod_left k (2 ^ w)) ∙ ap (λ (n : ℕ). n % 2 ^ w) (sym whole)
wrapped_opposite w (suc n) k m e =
    let split : n / 2 ^ w * 2 ^ w + n % 2 ^ w ≡ n = div-add-mod' n (2 ^ w) in
    let rest : n % 2 ^ w < 2 ^ w = mod_below n (2 ^ w) (pow_pos w) in
    let above : n / 2 ^ w < k = lt_of_mul-lt-mul_right (2 ^ w) (omega arith) in
    let count : k ≡ suc (n / 2 ^ w + (k - suc (n / 2 ^ w))) = omega arith in
    let scaled : k * 2 ^ w ≡ suc (n / 2 ^ w + (k - suc (n / 2 ^ w))) * 2 ^ w = ap (λ (m : ℕ). m * 2 ^ w) count in
    let form : m ≡ (k - suc (n / 2 ^ w)) * 2 ^ w + (2 ^ w - 1 - n % 2 ^ w) = omega arith in
    sym (ap (λ (n : ℕ). n % 2 ^ w) form ∙ mod-mul-add (k - suc (n / 2 ^ w)) (2 ^ w) (2 ^ w - 1 - n % 2 ^ w) (omega arith))

-- multiples of 2 ^ w make no difference
pub wrapped_lowered : (w n k : ℕ) → wrapped w (pos n -ℤ pos (k * 2 ^ w)) ≡ n % 2 ^ w
unfolding wrapped
wrapped_lowered w n k =
    elim (cases_lt n (k * 2 ^ w)) [
      | inl p ↦
          (let e : pos n -ℤ pos (k * 2 ^ w) ≡ neg_ℤ (pos (k * 2 ^ w - n)) = omega (arith, ints) in
          ap (wrapped w) e ∙ wrapped_opposite w (k * 2 ^ w - n) k n (omega arith))
      | inr q ↦
          (let e : pos n -ℤ pos (k * 2 ^ w) ≡ pos (n - k * 2 ^ w) = omega (arith, ints) in
          let f : n ≡ (n - k * 2 ^ w) + k * 2 ^ w = omega arith in
          ap (wrapped w) e ∙ sym (ap (λ (n : ℕ). n % 2 ^ w) f ∙ add-mul-mod_self_right (n - k * 2 ^ w) k (2 ^ w)))
    ]

-- ---- from one view to the other

-- the signed number is the unsigned one, less 2 ^ w where the top bit is set
pub signed_value_is : (w a : ℕ) → 1 ≤ w → a < 2 ^ w → (i : ℕ) × (i ≤ 1) × (signed_value w a ≡ pos a -ℤ pos (i * 2 ^ w))
signed_value_is w a h l =
    elim (cases_lt a (2 ^ (w - 1))) [
      | inl p ↦ (0, omega arith, signed_value_low w a p ∙ omega (arith, ints))
      | inr q ↦ (1, omega arith, signed_value_high w a q l ∙ omega (arith, ints))
    ]

pub wrapped-signed_value : (w a : ℕ) → 1 ≤ w → a < 2 ^ w → wrapped w (signed_value w a) ≡ a
wrapped-signed_value w a h l =
    let (i, _, e) = signed_value_is w a h l in
    ap (wrapped w) e ∙ wrapped_lowered w a i ∙ mod-eq_of_lt l

pub signed_value-wrapped : (w : ℕ) (z : ℤ) → 1 ≤ w → fits_width w z ≡ true → signed_value w (wrapped w z) ≡ z
unfolding fits_width wrapped
signed_value-wrapped w (pos n) h f =
    let low : n < 2 ^ (w - 1) = grind (arith, nat_tests) in
    let small : n % 2 ^ w ≡ n = mod-eq_of_lt (omega (arith, pow_doubled w h)) in
    rw small (signed_value_low w n low)
signed_value-wrapped w (negsuc n) h f =
    let low : n < 2 ^ (w - 1) = grind (arith, nat_tests) in
    let twice = pow_doubled w h in
    let small : n % 2 ^ w ≡ n = mod-eq_of_lt (omega (arith, twice)) in
    let back : 2 ^ w - 1 - (2 ^ w - 1 - n) ≡ n = omega (arith, twice) in
    rw small (signed_value_high w (2 ^ w - 1 - n) (omega (arith, twice)) (omega (arith, twice)) ∙ ap negsuc back)

pub fits_width-signed_value : (w a : ℕ) → 1 ≤ w → a < 2 ^ w → fits_width w (signed_value w a) ≡ true
unfolding fits_width
fits_width-signed_value w a h l =
    elim (cases_lt a (2 ^ (w - 1))) [
      | inl p ↦ rw (signed_value_low w a p) (grind (arith, nat_tests))
      | inr q ↦ (let twice = pow_doubled w h in rw (signed_value_high w a q l) (grind (arith, nat_tests, twice)))
    ]

-- two words of one width with one signed number are equal
pub same_from_signed : (w a b : ℕ) → 1 ≤ w → a < 2 ^ w → b < 2 ^ w → signed_value w a ≡ signed_value w b → a ≡ b
same_from_signed w a b h k l e =
    sym (wrapped-signed_value w a h k) ∙ ap (wrapped w) e ∙ wrapped-signed_value w b h l

-- ---- the sum, the difference and the product are those of the signed numbers too

pub wrapped_sum : (w a b : ℕ) → 1 ≤ w → a < 2 ^ w → b < 2 ^ w → wrapped w (signed_value w a +ℤ signed_value w b) ≡ word_sum w a b
unfolding word_sum
wrapped_sum w a b h k l =
    let (i, _, e) = signed_value_is w a h k in
    let (j, _, f) = signed_value_is w b h l in
    let sum : signed_value w a +ℤ signed_value w b ≡ pos (a + b) -ℤ pos ((i + j) * 2 ^ w) = omega (arith, ints) in
    ap (wrapped w) sum ∙ wrapped_lowered w (a + b) (i + j)

pub wrapped_difference : (w a b : ℕ) → 1 ≤ w → a < 2 ^ w → b < 2 ^ w → wrapped w (signed_value w a -ℤ signed_value w b) ≡ word_difference w a b
unfolding word_difference
wrapped_difference w a b h k l =
    let (i, _, e) = signed_value_is w a h k in
    let (j, j_at_most_1, f) = signed_value_is w b h l in
    let count : (i + 1 - j) + j ≡ i + 1 = omega arith in
    let scaled : ((i + 1 - j) + j) * 2 ^ w ≡ (i + 1) * 2 ^ w = ap (λ (n : ℕ). n * 2 ^ w) count in
    let difference : signed_value w a -ℤ signed_value w b ≡ pos (a + 2 ^ w - b) -ℤ pos ((i + 1 - j) * 2 ^ w) = omega (arith, ints) in
    ap (wrapped w) difference ∙ wrapped_lowered w (a + 2 ^ w - b) (i + 1 - j)

-- the products by what is missing from 2 ^ w
missing_right : (w a b : ℕ) → b < 2 ^ w → a * suc (2 ^ w - 1 - b) + a * b ≡ a * 2 ^ w
missing_right w a b h =
    let whole : suc (2 ^ w - 1 - b) + b ≡ 2 ^ w = omega arith in
    let scaled : a * (suc (2 ^ w - 1 - b) + b) ≡ a * 2 ^ w = ap (λ (n : ℕ). a * n) whole in
    omega arith

missing_both : (w a b : ℕ) → a < 2 ^ w → b < 2 ^ w → suc (2 ^ w - 1 - a) * suc (2 ^ w - 1 - b) + b * 2 ^ w ≡ a * b + suc (2 ^ w - 1 - a) * 2 ^ w
missing_both w a b h k =
    let first : suc (2 ^ w - 1 - a) + a ≡ 2 ^ w = omega arith in
    let second : suc (2 ^ w - 1 - b) + b ≡ 2 ^ w = omega arith in
    let by_b : (suc (2 ^ w - 1 - a) + a) * b ≡ 2 ^ w * b = ap (λ (n : ℕ). n * b) first in
    let by_missing : suc (2 ^ w - 1 - a) * (suc (2 ^ w - 1 - b) + b) ≡ suc (2 ^ w - 1 - a) * 2 ^ w = ap (λ (n : ℕ). suc (2 ^ w - 1 - a) * n) second in
    omega arith

pub wrapped_product : (w a b : ℕ) → 1 ≤ w → a < 2 ^ w → b < 2 ^ w → wrapped w (signed_value w a *ℤ signed_value w b) ≡ word_product w a b
unfolding word_product wrapped
wrapped_product w a b h k l =
    elim (cases_lt a (2 ^ (w - 1))) [
      | inl p ↦
          elim (cases_lt b (2 ^ (w - 1))) [
            | inl q ↦ rw (signed_value_low w a p, signed_value_low w b q) refl
            | inr q ↦ rw (signed_value_low w a p, signed_value_high w b q l) (wrapped_opposite w (a * suc (2 ^ w - 1 - b)) a (a * b) (missing_right w a b l))
          ]
      | inr p ↦
          elim (cases_lt b (2 ^ (w - 1))) [
            | inl q ↦
                (let missing = missing_right w b a k in
                rw (signed_value_high w a p k, signed_value_low w b q) (wrapped_opposite w (suc (2 ^ w - 1 - a) * b) b (a * b) (omega (arith, missing))))
            | inr q ↦
                (let missing = missing_both w a b k l in
                rw (signed_value_high w a p k, signed_value_high w b q l)
                (sym (add-mul-mod_self_right (suc (2 ^ w - 1 - a) * suc (2 ^ w - 1 - b)) b (2 ^ w))
                ∙ ap (λ (n : ℕ). n % 2 ^ w) missing
                ∙ add-mul-mod_self_right (a * b) (suc (2 ^ w - 1 - a)) (2 ^ w)))
          ]
    ]

-- ---- where the signed result fits, the word means it

pub signed_value-word_sum : (w a b : ℕ) → 1 ≤ w → a < 2 ^ w → b < 2 ^ w → sum_fits w a b ≡ true → signed_value w (word_sum w a b) ≡ signed_value w a +ℤ signed_value w b
unfolding sum_fits
signed_value-word_sum w a b h k l f =
    ap (signed_value w) (sym (wrapped_sum w a b h k l)) ∙ signed_value-wrapped w (signed_value w a +ℤ signed_value w b) h f

pub signed_value-word_difference : (w a b : ℕ) → 1 ≤ w → a < 2 ^ w → b < 2 ^ w → difference_fits w a b ≡ true → signed_value w (word_difference w a b) ≡ signed_value w a -ℤ signed_value w b
unfolding difference_fits
signed_value-word_difference w a b h k l f =
    ap (signed_value w) (sym (wrapped_difference w a b h k l)) ∙ signed_value-wrapped w (signed_value w a -ℤ signed_value w b) h f

pub signed_value-word_product : (w a b : ℕ) → 1 ≤ w → a < 2 ^ w → b < 2 ^ w → product_fits w a b ≡ true → signed_value w (word_product w a b) ≡ signed_value w a *ℤ signed_value w b
unfolding product_fits
signed_value-word_product w a b h k l f =
    ap (signed_value w) (sym (wrapped_product w a b h k l)) ∙ signed_value-wrapped w (signed_value w a *ℤ signed_value w b) h f
