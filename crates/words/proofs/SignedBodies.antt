-- What the code computes in signed 64 bits, at a width of at most 64.
use Rattle.std.proofs.Common.{◌≡◌, ◌≢◌, ℕ, zero, suc, ◌+◌, ◌-◌, ◌*◌, ◌/◌, ◌%◌, ◌^◌, ◌<◌, ◌≤◌, ℤ, pos, negsuc, neg_ℤ, true, false, nat_lt, nat_eq, w64, to_z, of_z, FitsSigned, arith, refl, sym, ◌∙◌, ap, subst, inl, inr, ◌-ℤ◌}
use Rattle.std.specs.Int.Signed.{shr_z, mag_shr, quot_z, rem_z}
use Rattle.std.proofs.lemmas.Bool.{cases_lt}
use Rattle.std.proofs.Math.Nat.{mul-lt-mul_of_pos_right, lt_of_mul-lt-mul_right, div-eq_of_lt, div-le_self, div-one, mod-one, mod-eq_of_lt, zero-mod, mod_self}
use Rattle.std.proofs.lemmas.Nat.{div-add-mod', mod_below, pow_pos, div_below}
use Rattle.std.proofs.lemmas.Int.{to_z-of_z, quot_is, rem_is, ints, to_z_pos}
use Rattle.std.proofs.lemmas.Bool.Decides.{nat_tests}
use Rattle.words.specs.BitVector.{signed_value}
use Rattle.words.specs.Operators.{low_bits, wrapped, fits_width, word_negation, signed_quotient, signed_remainder, arithmetic_shift, left_shift_fits}
use Rattle.words.proofs.Powers.{mod_complement, pow_doubled, pow_grows, pow_split}
use Rattle.words.proofs.Signed.{signed_value_low, signed_value_high}

-- ---- numbers and their bits

-- what the code reads as 64 bits is the same number
pub low_of_64 : (w a : ℕ) → w ≤ 64 → a < 2 ^ (w - 1) → to_z w64 a ≡ signed_value w a
low_of_64 w a h k =
    let top : 2 ^ (w - 1) ≤ 2 ^ 63 = pow_grows (w - 1) 63 (omega arith) in
    to_z_pos w64 a (omega arith) ∙ sym (signed_value_low w a k)

pub high_of_64 : (w a : ℕ) → 1 ≤ w → w ≤ 64 → 2 ^ (w - 1) ≤ a → a < 2 ^ w → to_z w64 (of_z w64 (negsuc 0 -ℤ to_z w64 (2 ^ w - 1 - a))) ≡ signed_value w a
high_of_64 w a g h k l =
    let top : 2 ^ (w - 1) ≤ 2 ^ 63 = pow_grows (w - 1) 63 (omega arith) in
    let twice : 2 ^ w ≡ 2 ^ (w - 1) + 2 ^ (w - 1) = pow_doubled w g in
    let below : 2 ^ w - 1 - a < 2 ^ 63 = omega arith in
    omega (arith, ints) ∙ sym (signed_value_high w a k l)

-- the 64 bits of a number, cut to the width
low_bits_of : (w : ℕ) (z : ℤ) → FitsSigned w64 z → w ≤ 64 → low_bits w (of_z w64 z) ≡ wrapped w z
unfolding low_bits wrapped
low_bits_of w (pos n) f h = refl
low_bits_of w (negsuc n) f h = mod_complement n w 64 h (omega arith)

pub low_bits_signed : (w : ℕ) (z : ℤ) (m : ℕ) → FitsSigned w64 z → w ≤ 64 → m ≡ of_z w64 (to_z w64 (of_z w64 z)) → low_bits w m ≡ wrapped w z
low_bits_signed w z m f h e = ap (low_bits w) (e ∙ ap (of_z w64) (to_z-of_z w64 z f)) ∙ low_bits_of w z f h

-- a shift of 64 signed bits
pub shifted_64 : (z : ℤ) (m : ℕ) → FitsSigned w64 z → to_z w64 (of_z w64 (shr_z (to_z w64 (of_z w64 z)) m)) ≡ shr_z z m
shifted_64 z m f =
    let inner : to_z w64 (of_z w64 z) ≡ z = to_z-of_z w64 z f in
    let fits : FitsSigned w64 (shr_z z m) = record { sfits = omega (arith, mag_shr z m) } in
    ap (λ (v : ℤ). to_z w64 (of_z w64 (shr_z v m))) inner ∙ to_z-of_z w64 (shr_z z m) fits

pub arithmetic_shift_64 : (w a k : ℕ) (z : ℤ) → FitsSigned w64 z → z ≡ signed_value w a → k < w → wrapped w (to_z w64 (of_z w64 (shr_z (to_z w64 (of_z w64 z)) (2 ^ k)))) ≡ arithmetic_shift w a k
unfolding arithmetic_shift
arithmetic_shift_64 w a k z f e l =
    ap (wrapped w) (shifted_64 z (2 ^ k) f ∙ ap (λ (v : ℤ). shr_z v (2 ^ k)) e) ∙ grind (arith, nat_tests)

-- n / m is 0 exactly where n is below m
below_of_quotient : (n m : ℕ) → 0 < m → n / m ≡ 0 → n < m
below_of_quotient n m h e =
    let whole : 0 * m + n % m ≡ n = ap (λ (q : ℕ). q * m + n % m) (sym e) ∙ div-add-mod' n m in
    omega (arith, mod_below n m h)

test_below : (n m : ℕ) → 0 < m → nat_lt n m ≡ nat_eq (n / m) 0
test_below n m h =
    let down : n < m → n / m ≡ 0 = λ l. div-eq_of_lt l in
    let up : n / m ≡ 0 → n < m = below_of_quotient n m h in
    grind (arith, nat_tests)

test_below_negative : (n m : ℕ) → 0 < m → n < 2 ^ 63 → nat_eq (2 ^ 64 - suc (n / m)) (2 ^ 64 - 1) ≡ nat_lt n m
test_below_negative n m h f =
    let small : n / m ≤ n = div-le_self n m in
    let test : nat_lt n m ≡ nat_eq (n / m) 0 = test_below n m h in
    let same : nat_eq (2 ^ 64 - suc (n / m)) (2 ^ 64 - 1) ≡ nat_eq (n / m) 0 = grind (arith, nat_tests) in
    same ∙ sym test

-- a number is in range exactly where all its bits from the sign bit up are 0, or all are 1
pub in_range_zero : (w : ℕ) (z : ℤ) → FitsSigned w64 z → of_z w64 (shr_z z (2 ^ (w - 1))) ≡ 0 → fits_width w z ≡ true
unfolding fits_width
in_range_zero w (pos n) f e =
    let l : n < 2 ^ (w - 1) = below_of_quotient n (2 ^ (w - 1)) (pow_pos (w - 1)) e in
    grind (arith, nat_tests)
in_range_zero w (negsuc n) f e =
    let small : n / 2 ^ (w - 1) ≤ n = div-le_self n (2 ^ (w - 1)) in
    absurd (omega arith)

pub in_range_other : (w : ℕ) (z : ℤ) → FitsSigned w64 z → (of_z w64 (shr_z z (2 ^ (w - 1))) ≡ 0 → ⊥) → nat_eq (of_z w64 (shr_z z (2 ^ (w - 1)))) (2 ^ 64 - 1) ≡ fits_width w z
unfolding fits_width
in_range_other w (pos n) f ne =
    let small : n / 2 ^ (w - 1) ≤ n = div-le_self n (2 ^ (w - 1)) in
    let test : nat_lt n (2 ^ (w - 1)) ≡ nat_eq (n / 2 ^ (w - 1)) 0 = test_below n (2 ^ (w - 1)) (pow_pos (w - 1)) in
    grind (arith, nat_tests)
in_range_other w (negsuc n) f ne = test_below_negative n (2 ^ (w - 1)) (pow_pos (w - 1)) (omega arith)

-- what isn't in range of 64 bits isn't in range of fewer
pub out_of_range : (w : ℕ) (z : ℤ) → w ≤ 64 → (FitsSigned w64 z → ⊥) → fits_width w z ≡ false
unfolding fits_width
out_of_range w (pos n) h ne =
    let top : 2 ^ (w - 1) ≤ 2 ^ 63 = pow_grows (w - 1) 63 (omega arith) in
    let out : n < 2 ^ 63 → ⊥ = λ l. ne (record { sfits = l }) in
    grind (arith, nat_tests)
out_of_range w (negsuc n) h ne =
    let top : 2 ^ (w - 1) ≤ 2 ^ 63 = pow_grows (w - 1) 63 (omega arith) in
    let out : n < 2 ^ 63 → ⊥ = λ l. ne (record { sfits = l }) in
    grind (arith, nat_tests)

-- an operation on two signed numbers in 64 bits: `s` and `t` are those numbers as the code has them
operands : (op : ℤ → ℤ → ℤ) (s t x y : ℤ) → FitsSigned w64 s → FitsSigned w64 t → s ≡ x → t ≡ y → op (to_z w64 (of_z w64 s)) (to_z w64 (of_z w64 t)) ≡ op x y
operands op s t x y f g p q =
    ap (λ (v : ℤ). op v (to_z w64 (of_z w64 t))) (to_z-of_z w64 s f ∙ p) ∙ ap (op x) (to_z-of_z w64 t g ∙ q)

pub result_in_range : (op : ℤ → ℤ → ℤ) (w : ℕ) (s t x y r : ℤ) → FitsSigned w64 s → FitsSigned w64 t → s ≡ x → t ≡ y → FitsSigned w64 (op (to_z w64 (of_z w64 s)) (to_z w64 (of_z w64 t))) → r ≡ op (to_z w64 (of_z w64 s)) (to_z w64 (of_z w64 t)) → fits_width w (to_z w64 (of_z w64 r)) ≡ fits_width w (op x y)
result_in_range op w s t x y r f g p q fits e =
    let same : to_z w64 (of_z w64 r) ≡ r = to_z-of_z w64 r (subst (λ (v : ℤ). FitsSigned w64 v) (sym e) fits) in
    ap (fits_width w) (same ∙ e ∙ operands op s t x y f g p q)

pub result_out_of_range : (op : ℤ → ℤ → ℤ) (w : ℕ) (s t x y : ℤ) → w ≤ 64 → FitsSigned w64 s → FitsSigned w64 t → s ≡ x → t ≡ y → (FitsSigned w64 (op (to_z w64 (of_z w64 s)) (to_z w64 (of_z w64 t))) → ⊥) → fits_width w (op x y) ≡ false
result_out_of_range op w s t x y h f g p q ne =
    out_of_range w (op x y) h (λ k. ne (subst (λ (v : ℤ). FitsSigned w64 v) (sym (operands op s t x y f g p q)) k))

-- the test of a left shift
test_scaled : (a m n : ℕ) → 0 < n → nat_lt (a * n) (m * n) ≡ nat_lt a m
test_scaled a m n h =
    let down : a < m → a * n < m * n = λ l. mul-lt-mul_of_pos_right l h in
    let up : a * n < m * n → a < m = λ l. lt_of_mul-lt-mul_right n l in
    grind (arith, nat_tests)

left_shift_low : (w a k : ℕ) → 1 ≤ w → k < w → nat_eq (a / 2 ^ (w - 1 - k)) 0 ≡ nat_lt (a * 2 ^ k) (2 ^ (w - 1))
left_shift_low w a k h b =
    let split : 2 ^ (w - 1) ≡ 2 ^ (w - 1 - k) * 2 ^ k = pow_split k (w - 1) (omega arith) in
    sym (test_below a (2 ^ (w - 1 - k)) (pow_pos (w - 1 - k))) ∙ sym (test_scaled a (2 ^ (w - 1 - k)) (2 ^ k) (pow_pos k)) ∙ ap (nat_lt (a * 2 ^ k)) (sym split)

left_shift_high : (w a k : ℕ) → 2 ^ (w - 1) ≤ a → nat_eq (a / 2 ^ (w - 1 - k)) 0 ≡ false
left_shift_high w a k q =
    let less : 2 ^ (w - 1 - k) ≤ 2 ^ (w - 1) = pow_grows (w - 1 - k) (w - 1) (omega arith) in
    let test : nat_lt a (2 ^ (w - 1 - k)) ≡ nat_eq (a / 2 ^ (w - 1 - k)) 0 = test_below a (2 ^ (w - 1 - k)) (pow_pos (w - 1 - k)) in
    grind (arith, nat_tests)

pub left_shift_test : (w a k : ℕ) → 1 ≤ w → a < 2 ^ w → k < w → nat_eq (a / 2 ^ (w - 1 - k)) 0 ≡ left_shift_fits w a k
unfolding left_shift_fits fits_width
left_shift_test w a k h l b =
    elim (cases_lt a (2 ^ (w - 1))) [
      | inl p ↦ rw (signed_value_low w a p) (left_shift_low w a k h b ∙ grind (arith, nat_tests))
      | inr q ↦ rw (signed_value_high w a q l) (left_shift_high w a k q)
    ]

-- ---- division

fits_negative : (n : ℕ) → n ≤ 2 ^ 63 → FitsSigned w64 (neg_ℤ (pos n))
fits_negative zero h = record { sfits = omega arith }
fits_negative (suc n) h = record { sfits = omega arith }

-- a quotient fits unless the divisor is -1
quotient_fits : (a d : ℤ) → FitsSigned w64 a → FitsSigned w64 d → (of_z w64 d ≡ 2 ^ 64 - 1 → ⊥) → FitsSigned w64 (quot_z a d)
quotient_fits (pos a) (pos b) f g ne = record { sfits = omega (arith, div-le_self a b) }
quotient_fits (pos a) (negsuc b) f g ne = fits_negative (a / suc b) (omega (arith, div-le_self a (suc b)))
quotient_fits (negsuc a) (pos b) f g ne = fits_negative (suc a / b) (omega (arith, div-le_self (suc a) b))
quotient_fits (negsuc a) (negsuc b) f g ne =
    let more : b ≢ 0 = λ e. ne (omega arith) in
    let below : suc a / suc b < 2 ^ 63 = div_below (suc a) (suc b) (2 ^ 63) (omega arith) (omega arith) in
    record { sfits = below }

-- what the code requires of a division
pub divides : (s d : ℤ) → FitsSigned w64 s → FitsSigned w64 d → (of_z w64 d ≡ 2 ^ 64 - 1 → ⊥) → FitsSigned w64 (quot_z (to_z w64 (of_z w64 s)) (to_z w64 (of_z w64 d)))
divides s d f g ne = subst (λ (v : ℤ). FitsSigned w64 v) (sym (operands quot_z s d s d f g refl refl)) (quotient_fits s d f g ne)

pub divisor_positive : (w b : ℕ) (d : ℤ) → 1 ≤ w → w ≤ 64 → 0 < b → b < 2 ^ w → d ≡ signed_value w b → 0 < of_z w64 d
divisor_positive w b d h k p l e =
    let top : 2 ^ w ≤ 2 ^ 64 = pow_grows w 64 k in
    elim (cases_lt b (2 ^ (w - 1))) [
      | inl q ↦ rw (e, signed_value_low w b q) p
      | inr q ↦ rw (e, signed_value_high w b q l) (omega arith)
    ]

pub quotient_64 : (w a b : ℕ) (s d : ℤ) → FitsSigned w64 s → FitsSigned w64 d → (of_z w64 d ≡ 2 ^ 64 - 1 → ⊥) → s ≡ signed_value w a → d ≡ signed_value w b → wrapped w (to_z w64 (of_z w64 (quot_z (to_z w64 (of_z w64 s)) (to_z w64 (of_z w64 d))))) ≡ signed_quotient w a b
unfolding signed_quotient
quotient_64 w a b s d f g ne p q =
    ap (wrapped w) (quot_is w64 s d f g (quotient_fits s d f g ne) ∙ ap (λ (v : ℤ). quot_z v d) p ∙ ap (quot_z (signed_value w a)) q)

pub remainder_64 : (w a b : ℕ) (s d : ℤ) → FitsSigned w64 s → FitsSigned w64 d → 0 < b → s ≡ signed_value w a → d ≡ signed_value w b → wrapped w (to_z w64 (of_z w64 (rem_z (to_z w64 (of_z w64 s)) (to_z w64 (of_z w64 d))))) ≡ signed_remainder w a b
unfolding signed_remainder
remainder_64 w a b s d f g h p q =
    ap (wrapped w) (rem_is w64 s d f g ∙ ap (λ (v : ℤ). rem_z v d) p ∙ ap (rem_z (signed_value w a)) q) ∙ grind (arith, nat_tests)

-- ---- division by -1

minus_one : (d : ℤ) → FitsSigned w64 d → of_z w64 d ≡ 2 ^ 64 - 1 → d ≡ negsuc 0
minus_one (pos n) f e = absurd (omega arith)
minus_one (negsuc n) f e =
    let none : n ≡ 0 = omega arith in
    ap negsuc none

wrapped_negative : (w n : ℕ) → n ≤ 2 ^ w → wrapped w (neg_ℤ (pos n)) ≡ (2 ^ w - n) % 2 ^ w
unfolding wrapped
wrapped_negative w zero h =
    let whole : 2 ^ w - 0 ≡ 2 ^ w = omega arith in
    zero-mod (2 ^ w) ∙ sym (mod_self (2 ^ w)) ∙ ap (λ (n : ℕ). n % 2 ^ w) (sym whole)
wrapped_negative w (suc n) h =
    let small : n % 2 ^ w ≡ n = mod-eq_of_lt (omega arith) in
    let rest : (2 ^ w - suc n) % 2 ^ w ≡ 2 ^ w - suc n = mod-eq_of_lt (omega arith) in
    omega arith

negated : (w a : ℕ) → 1 ≤ w → a < 2 ^ w → word_negation w a ≡ wrapped w (quot_z (signed_value w a) (negsuc 0))
unfolding word_negation wrapped
negated w a h l =
    elim (cases_lt a (2 ^ (w - 1))) [
      | inl p ↦ rw (signed_value_low w a p, div-one a) (sym (wrapped_negative w a (omega arith)))
      | inr q ↦ rw (signed_value_high w a q l, div-one (suc (2 ^ w - 1 - a))) (ap (λ (n : ℕ). n % 2 ^ w) (omega arith))
    ]

pub quotient_minus_one : (w a b : ℕ) (d : ℤ) → 1 ≤ w → a < 2 ^ w → FitsSigned w64 d → of_z w64 d ≡ 2 ^ 64 - 1 → d ≡ signed_value w b → word_negation w a ≡ signed_quotient w a b
unfolding signed_quotient
quotient_minus_one w a b d h l f e q =
    negated w a h l ∙ ap (λ (v : ℤ). wrapped w (quot_z (signed_value w a) v)) (sym (minus_one d f e) ∙ q)

remainder_one : (z : ℤ) → rem_z z (negsuc 0) ≡ pos 0
remainder_one (pos a) = ap pos (mod-one a)
remainder_one (negsuc a) = ap (λ (n : ℕ). neg_ℤ (pos n)) (mod-one (suc a))

pub remainder_minus_one : (w a b : ℕ) (d : ℤ) → FitsSigned w64 d → 0 < b → of_z w64 d ≡ 2 ^ 64 - 1 → d ≡ signed_value w b → 0 ≡ signed_remainder w a b
unfolding signed_remainder wrapped
remainder_minus_one w a b d f h e q =
    let zero_is : wrapped w (rem_z (signed_value w a) (signed_value w b)) ≡ 0 =
    ap (λ (v : ℤ). wrapped w (rem_z (signed_value w a) v)) (sym q ∙ minus_one d f e) ∙ ap (wrapped w) (remainder_one (signed_value w a)) ∙ zero-mod (2 ^ w) in
    grind (arith, nat_tests)
