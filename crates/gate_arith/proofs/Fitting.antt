-- Whether signed results are in range.
use Rattle.std.proofs.Common.{◌≡◌, ℕ, zero, suc, ◌+◌, ◌-◌, ◌*◌, ◌%◌, ◌^◌, ◌<◌, ◌≤◌, pos, negsuc, neg_ℤ, ◌-ℤ◌, Bool, true, false, not, ◌&&◌, ◌||◌, nat_eq, nat_lt, nat_le, List, [], ◌∷◌, ◌++◌, map, replicate, take, length, refl, sym, ap, ◌∙◌, subst, arith, inl, inr}
use Rattle.std.specs.Prelude.{if◌then◌else◌}
use Rattle.std.proofs.Math.Nat.{mod-eq_of_lt, mul-le-mul_left, mul-lt-mul_of_pos_right}
use Rattle.std.proofs.lemmas.Nat.{pow_pos, pow-add, mul-le}
use Rattle.std.proofs.lemmas.Bool.{cases_lt}
use Rattle.std.proofs.lemmas.Bool.Decides.{nat_tests}
use Rattle.std.proofs.lemmas.Int.{ints}
use Rattle.std.proofs.lemmas.List.{length-replicate, length-append}
use Rattle.sat_form.specs.Satisfaction.{Literal, Form, literal_value, inverse_of, IsWithin}
use Rattle.sat_form.specs.Numbers.{bit_value, value_of}
use Rattle.sat_form.proofs.Numbering.{value_of-below, value_of-append}
use Rattle.sat_form.proofs.Truth.{literal_value-inverse_of}
use Rattle.sat_form.proofs.Within.{IsWithin-append}
use Rattle.words.specs.Operators.{fits_width, word_negation, word_product, left_shift, sum_fits, difference_fits, product_fits, left_shift_fits}
use Rattle.words.proofs.Powers.{pow_doubled, pow_grows}
use Rattle.words.proofs.Signed.{signed_value_low, signed_value_high}
use Rattle.words.proofs.Overflow.{sum_fits_mixed, sum_fits-comm, difference_fits_low, difference_fits_high}
use Rattle.words.proofs.Carry.{word_product_double}
use Rattle.gate_bits.specs.Growth.{GrowsFreely}
use Rattle.gate_bits.specs.Truth.{IsTruth, IsNumber, differs, most}
use Rattle.gate_words.specs.Quotients.{negated_if}
use Rattle.gate_words.specs.Shifts.{IsConstant}
use Rattle.gate_arith.specs.Ranges.{magnitude, IsShiftInRange}
use Rattle.gate_bits.proofs.Growing.{front}
use Rattle.gate_bits.proofs.Parts.{IsWithin-replicate}
use Rattle.gate_bits.proofs.Adding.{value_of-push, length-push, power_more}
use Rattle.gate_words.proofs.Multiplying.{value_of-fill, value_of-take}
use Rattle.gate_words.proofs.Shifting.{small_power}
use Rattle.gate_bits.proofs.Inverting.{value_of-inverses}
use Rattle.gate_words.proofs.Dividing.{IsSign, sign_is}

-- ---- sums and differences

no_change : (c : Bool) → not (differs c (most true false c)) ≡ true
no_change true = refl
no_change false = refl

no_change_turned : (c : Bool) → not (differs c (most false true c)) ≡ true
no_change_turned true = refl
no_change_turned false = refl

-- where both signs are 0, the sum is in range if nothing is carried; where both are 1, if something is
carried_low : (c : Bool) → not (differs c (most false false c)) ≡ not c
carried_low true = refl
carried_low false = refl

carried_high : (c : Bool) → not (differs c (most true true c)) ≡ c
carried_high true = refl
carried_high false = refl

sum_in_range : (w p m n r : ℕ) (u v : Bool) → 1 ≤ w → p ≡ 2 ^ (w - 1) → m < p → n < p → r + n + 1 ≡ p → not (differs (nat_lt r m) (most u v (nat_lt r m))) ≡ sum_fits w (m + p * bit_value u) (n + p * bit_value v)
unfolding sum_fits fits_width
sum_in_range w p m n r true true h e a b c =
    let twice = pow_doubled w h in
    carried_high (nat_lt r m)
    ∙ rw (signed_value_high w (m + p * 1) (omega arith) (omega (arith, twice)), signed_value_high w (n + p * 1) (omega arith) (omega (arith, twice))) (grind (arith, nat_tests, twice))
sum_in_range w p m n r true false h e a b c =
    let twice = pow_doubled w h in
    no_change (nat_lt r m)
    ∙ sym (sum_fits-comm w (m + p * 1) (n + p * 0) ∙ sum_fits_mixed w (n + p * 0) (m + p * 1) h (omega arith) (omega arith) (omega (arith, twice)))
sum_in_range w p m n r false true h e a b c =
    let twice = pow_doubled w h in
    no_change_turned (nat_lt r m)
    ∙ sym (sum_fits_mixed w (m + p * 0) (n + p * 1) h (omega arith) (omega arith) (omega (arith, twice)))
sum_in_range w p m n r false false h e a b c =
    carried_low (nat_lt r m)
    ∙ rw (signed_value_low w (m + p * 0) (omega arith), signed_value_low w (n + p * 0) (omega arith)) (grind (arith, nat_tests))

difference_in_range : (w p m n : ℕ) (u v : Bool) → 1 ≤ w → p ≡ 2 ^ (w - 1) → m < p → n < p → not (differs (nat_lt m n) (most (not u) v (nat_lt m n))) ≡ difference_fits w (m + p * bit_value u) (n + p * bit_value v)
unfolding difference_fits fits_width
difference_in_range w p m n true true h e a b =
    let twice = pow_doubled w h in
    no_change_turned (nat_lt m n)
    ∙ sym (difference_fits_high w (m + p * 1) (n + p * 1) h (omega arith) (omega (arith, twice)) (omega arith) (omega (arith, twice)))
difference_in_range w p m n true false h e a b =
    let twice = pow_doubled w h in
    let number : negsuc (2 ^ w - 1 - (m + p * 1)) -ℤ pos (n + p * 0) ≡ negsuc (2 ^ w - 1 - (m + p * 1) + (n + p * 0)) = omega (arith, ints) in
    carried_low (nat_lt m n)
    ∙ rw (signed_value_high w (m + p * 1) (omega arith) (omega (arith, twice)), signed_value_low w (n + p * 0) (omega arith)) (grind (arith, nat_tests, twice) ∙ sym (ap (fits_width w) number))
difference_in_range w p m n false true h e a b =
    let twice = pow_doubled w h in
    let number : pos (m + p * 0) -ℤ negsuc (2 ^ w - 1 - (n + p * 1)) ≡ pos (m + p * 0 + 2 ^ w - (n + p * 1)) = omega (arith, ints, twice) in
    carried_high (nat_lt m n)
    ∙ rw (signed_value_low w (m + p * 0) (omega arith), signed_value_high w (n + p * 1) (omega arith) (omega (arith, twice))) (grind (arith, nat_tests, twice) ∙ sym (ap (fits_width w) number))
difference_in_range w p m n false false h e a b =
    no_change (nat_lt m n)
    ∙ sym (difference_fits_low w (m + p * 0) (n + p * 0) h (omega arith) (omega arith))

below_at : (v : ℕ → Bool) (p q : List Literal) → length p ≡ length q → value_of q v < 2 ^ length p
below_at v p q same = subst (λ (n : ℕ). value_of q v < 2 ^ n) (sym same) (value_of-below v q)

-- a number with its sign, over the place of another's
number_at : (v : ℕ → Bool) (a p q : List Literal) (y : Literal) → a ≡ q ++ y ∷ [] → length p ≡ length q → value_of a v ≡ value_of q v + 2 ^ length p * bit_value (literal_value v y)
number_at v a p q y is same = ap (λ (m : List Literal). value_of m v) is ∙ value_of-push v q y ∙ ap (λ (n : ℕ). value_of q v + 2 ^ n * bit_value (literal_value v y)) (sym same)

place_of : (a p : List Literal) (x : Literal) → a ≡ p ++ x ∷ [] → 2 ^ length p ≡ 2 ^ (length a - 1)
place_of a p x is =
    let width : length a ≡ length p + 1 = ap (λ (m : List Literal). length m) is ∙ length-push p x in
    ap (λ (n : ℕ). 2 ^ n) (omega arith)

pub Sum_fits : (f g : Form) (a b p q rest : List Literal) (x y carry out : Literal) → a ≡ p ++ x ∷ [] → b ≡ q ++ y ∷ [] → length p ≡ length q → rest ≡ map inverse_of q → IsTruth f carry (λ v. nat_lt (value_of rest v) (value_of p v)) → GrowsFreely f g → IsTruth g out (λ v. not (differs (literal_value v carry) (most (literal_value v x) (literal_value v y) (literal_value v carry)))) → IsTruth g out (λ v. sum_fits (length a) (value_of a v) (value_of b v))
Sum_fits f g a b p q rest x y carry out whole_a whole_b same is_rest is_carry grows is_out = record {
  within = is_out.within;
  is = λ v all.
      let test : literal_value v carry ≡ nat_lt (value_of rest v) (value_of p v) = is_carry.is v (front grows v all) in
      let width : length a ≡ length p + 1 = ap (λ (m : List Literal). length m) whole_a ∙ length-push p x in
      let power : 2 ^ length q ≡ 2 ^ length p = ap (λ (n : ℕ). 2 ^ n) (sym same) in
      let inverse : value_of rest v + value_of q v + 1 ≡ 2 ^ length p = ap (λ (m : List Literal). value_of m v + value_of q v + 1) is_rest ∙ value_of-inverses v q ∙ power in
      is_out.is v all
      ∙ ap (λ (c : Bool). not (differs c (most (literal_value v x) (literal_value v y) c))) test
      ∙ sum_in_range (length a) (2 ^ length p) (value_of p v) (value_of q v) (value_of rest v) (literal_value v x) (literal_value v y) (omega arith) (place_of a p x whole_a) (value_of-below v p) (below_at v p q same) inverse
      ∙ sym (λ k. sum_fits (length a) (number_at v a p p x whole_a refl k) (number_at v b p q y whole_b same k));
}

pub Difference_fits : (f g : Form) (a b p q : List Literal) (x y other carry out : Literal) → a ≡ p ++ x ∷ [] → b ≡ q ++ y ∷ [] → length p ≡ length q → other ≡ inverse_of x → IsTruth f carry (λ v. nat_lt (value_of p v) (value_of q v)) → GrowsFreely f g → IsTruth g out (λ v. not (differs (literal_value v carry) (most (literal_value v other) (literal_value v y) (literal_value v carry)))) → IsTruth g out (λ v. difference_fits (length a) (value_of a v) (value_of b v))
Difference_fits f g a b p q x y other carry out whole_a whole_b same is_other is_carry grows is_out = record {
  within = is_out.within;
  is = λ v all.
      let test : literal_value v carry ≡ nat_lt (value_of p v) (value_of q v) = is_carry.is v (front grows v all) in
      let turned : literal_value v other ≡ not (literal_value v x) = ap (literal_value v) is_other ∙ literal_value-inverse_of v x in
      let width : length a ≡ length p + 1 = ap (λ (m : List Literal). length m) whole_a ∙ length-push p x in
      is_out.is v all
      ∙ (λ k. not (differs (test k) (most (turned k) (literal_value v y) (test k))))
      ∙ difference_in_range (length a) (2 ^ length p) (value_of p v) (value_of q v) (literal_value v x) (literal_value v y) (omega arith) (place_of a p x whole_a) (value_of-below v p) (below_at v p q same)
      ∙ sym (λ k. difference_fits (length a) (number_at v a p p x whole_a refl k) (number_at v b p q y whole_b same k));
}

-- ---- below a power of 2

pub limit_value : (x : ℕ → Bool) (more none : Literal) (p k : ℕ) (ls : List Literal) → ls ≡ ((more ∷ replicate p none) ++ inverse_of none ∷ []) ++ replicate k none → literal_value x none ≡ false → value_of ls x ≡ bit_value (literal_value x more) + 2 * 2 ^ p
limit_value x more none p k ls is off =
    let one : literal_value x (inverse_of none) ≡ true = literal_value-inverse_of x none ∙ ap not off in
    let low : value_of (more ∷ replicate p none) x ≡ bit_value (literal_value x more) + 2 * 0 = ap (λ (n : ℕ). bit_value (literal_value x more) + 2 * n) (value_of-fill x p none off) in
    let count : length (more ∷ replicate p none) ≡ p + 1 = omega (arith, length-replicate p none) in
    let place : 2 ^ length (more ∷ replicate p none) ≡ 2 * 2 ^ p = ap (λ (n : ℕ). 2 ^ n) count ∙ power_more p in
    let pushed : value_of ((more ∷ replicate p none) ++ inverse_of none ∷ []) x ≡ value_of (more ∷ replicate p none) x + 2 ^ length (more ∷ replicate p none) * bit_value (literal_value x (inverse_of none)) = value_of-push x (more ∷ replicate p none) (inverse_of none) in
    let top : 2 ^ length (more ∷ replicate p none) * bit_value (literal_value x (inverse_of none)) ≡ 2 * 2 ^ p * 1 = (λ j. place j * bit_value (one j)) in
    let rest : 2 ^ length ((more ∷ replicate p none) ++ inverse_of none ∷ []) * value_of (replicate k none) x ≡ 2 ^ length ((more ∷ replicate p none) ++ inverse_of none ∷ []) * 0 = ap (λ (n : ℕ). 2 ^ length ((more ∷ replicate p none) ++ inverse_of none ∷ []) * n) (value_of-fill x k none off) in
    ap (λ (m : List Literal). value_of m x) is
    ∙ value_of-append x ((more ∷ replicate p none) ++ inverse_of none ∷ []) (replicate k none)
    ∙ omega (arith, low, pushed, top, rest)

half_test : (m q : ℕ) (b : Bool) → nat_lt (0 + 2 * m) (bit_value b + 2 * q) ≡ nat_lt m (q + bit_value b)
half_test m q true = grind (arith, nat_tests)
half_test m q false = grind (arith, nat_tests)

pub Below_is : (f g : Form) (bits doubled limit : List Literal) (more none out : Literal) (p k : ℕ) → doubled ≡ none ∷ bits → limit ≡ ((more ∷ replicate p none) ++ inverse_of none ∷ []) ++ replicate k none → IsTruth f none (λ v. false) → GrowsFreely f g → IsTruth g out (λ v. nat_lt (value_of doubled v) (value_of limit v)) → IsTruth g out (λ v. nat_lt (value_of bits v) (2 ^ p + bit_value (literal_value v more)))
Below_is f g bits doubled limit more none out p k is_doubled is_limit is_none grows is_out = record {
  within = is_out.within;
  is = λ v all.
      let off : literal_value v none ≡ false = is_none.is v (front grows v all) in
      let twice : value_of doubled v ≡ 0 + 2 * value_of bits v = ap (λ (m : List Literal). value_of m v) is_doubled ∙ ap (λ (b : Bool). bit_value b + 2 * value_of bits v) off in
      is_out.is v all
      ∙ (λ j. nat_lt (twice j) (limit_value v more none p k limit is_limit off j))
      ∙ half_test (value_of bits v) (2 ^ p) (literal_value v more);
}

pub IsWithin-limit : (n p k : ℕ) (more none : Literal) → more.variable < n → none.variable < n → IsWithin n (((more ∷ replicate p none) ++ inverse_of none ∷ []) ++ replicate k none)
IsWithin-limit n p k more none a b =
    IsWithin-append n ((more ∷ replicate p none) ++ inverse_of none ∷ []) (replicate k none)
    (IsWithin-append n (more ∷ replicate p none) (inverse_of none ∷ []) (a, IsWithin-replicate n p none b) (b, tt))
    (IsWithin-replicate n k none b)

-- ---- wide numbers

pub Wide_is : (f : Form) (w : ℕ) (bits wide : List Literal) (none : Literal) (number : (ℕ → Bool) → ℕ) → wide ≡ bits ++ replicate (length bits) none → IsTruth f none (λ v. false) → IsNumber f w bits number → IsNumber f (w + w) wide number
Wide_is f w bits wide none number is is_none has = record {
  count = ap (λ (m : List Literal). length m) is ∙ length-append bits (replicate (length bits) none) ∙ omega (arith, has.count, length-replicate (length bits) none);
  within = subst (λ (m : List Literal). IsWithin f.variables m) (sym is) (IsWithin-append f.variables bits (replicate (length bits) none) has.within (IsWithin-replicate f.variables (length bits) none is_none.within));
  is = λ v all.
      let nothing : 2 ^ length bits * value_of (replicate (length bits) none) v ≡ 2 ^ length bits * 0 = ap (λ (n : ℕ). 2 ^ length bits * n) (value_of-fill v (length bits) none (is_none.is v all)) in
      ap (λ (m : List Literal). value_of m v) is ∙ value_of-append v bits (replicate (length bits) none) ∙ omega (arith, nothing, has.is v all);
}

number_itself : (f : Form) (a : List Literal) → IsWithin f.variables a → IsNumber f (length a) a (value_of a)
number_itself f a within = record {
  count = refl;
  within = within;
  is = λ v all. refl;
}

by_sign : (w a : ℕ) (s : Bool) → IsSign w a s → negated_if s w a ≡ magnitude w a
by_sign w a true sign = let high : nat_lt a (2 ^ (w - 1)) ≡ false = (let h : 2 ^ (w - 1) ≤ a = sign.high refl in grind (arith, nat_tests)) in sym (ap (λ (b : Bool). if b then a else word_negation w a) high)
by_sign w a false sign = let low : nat_lt a (2 ^ (w - 1)) ≡ true = (let h : a < 2 ^ (w - 1) = sign.low refl in grind (arith, nat_tests)) in sym (ap (λ (b : Bool). if b then a else word_negation w a) low)

pub Magnitude_is : (f : Form) (a size wide p : List Literal) (x none : Literal) → p ++ x ∷ [] ≡ a → wide ≡ size ++ replicate (length size) none → IsTruth f none (λ v. false) → IsNumber f (length a) size (λ v. negated_if (literal_value v x) (length a) (value_of a v)) → IsNumber f (length a + length a) wide (λ v. magnitude (length a) (value_of a v))
Magnitude_is f a size wide p x none whole is is_none has =
    Wide_is f (length a) size wide none (λ v. magnitude (length a) (value_of a v)) is is_none
    (record {
      count = has.count;
      within = has.within;
      is = λ v all. has.is v all ∙ by_sign (length a) (value_of a v) (literal_value v x) (sign_is v p a x whole);
    })

-- ---- products

fits_positive : (w n : ℕ) → fits_width w (pos n) ≡ nat_lt n (2 ^ (w - 1) + 0)
unfolding fits_width
fits_positive w n = grind (arith, nat_tests)

fits_negative : (w n : ℕ) → fits_width w (neg_ℤ (pos n)) ≡ nat_lt n (2 ^ (w - 1) + 1)
unfolding fits_width
fits_negative w zero = let some = pow_pos (w - 1) in grind (arith, nat_tests)
fits_negative w (suc n) = grind (arith, nat_tests)

low_magnitude : (w a : ℕ) → a < 2 ^ (w - 1) → magnitude w a ≡ a
low_magnitude w a low = let test : nat_lt a (2 ^ (w - 1)) ≡ true = grind (arith, nat_tests) in ap (λ (b : Bool). if b then a else word_negation w a) test

high_magnitude : (w a : ℕ) → 2 ^ (w - 1) ≤ a → a < 2 ^ w → magnitude w a ≡ suc (2 ^ w - 1 - a)
unfolding word_negation
high_magnitude w a high below =
    let test : nat_lt a (2 ^ (w - 1)) ≡ false = grind (arith, nat_tests) in
    let some = pow_pos (w - 1) in
    let whole : (2 ^ w - a) % 2 ^ w ≡ 2 ^ w - a = mod-eq_of_lt (omega arith) in
    ap (λ (b : Bool). if b then a else ((2 ^ w - a) % 2 ^ w)) test ∙ whole ∙ omega arith

pub magnitude_below : (w a : ℕ) → a < 2 ^ w → magnitude w a < 2 ^ w
magnitude_below w a below =
    elim (cases_lt a (2 ^ (w - 1))) [
      | inl p ↦ omega (arith, low_magnitude w a p)
      | inr q ↦ omega (arith, high_magnitude w a q below, pow_pos (w - 1))
    ]

product_in_range : (w a b : ℕ) (s t : Bool) → a < 2 ^ w → b < 2 ^ w → IsSign w a s → IsSign w b t → nat_lt (magnitude w a * magnitude w b) (2 ^ (w - 1) + bit_value (differs s t)) ≡ product_fits w a b
unfolding product_fits
product_in_range w a b true true h k p q =
    (λ j. nat_lt (high_magnitude w a (p.high refl) h j * high_magnitude w b (q.high refl) k j) (2 ^ (w - 1) + 0))
    ∙ sym (fits_positive w (suc (2 ^ w - 1 - a) * suc (2 ^ w - 1 - b)))
    ∙ rw (signed_value_high w a (p.high refl) h, signed_value_high w b (q.high refl) k) refl
product_in_range w a b true false h k p q =
    (λ j. nat_lt (high_magnitude w a (p.high refl) h j * low_magnitude w b (q.low refl) j) (2 ^ (w - 1) + 1))
    ∙ sym (fits_negative w (suc (2 ^ w - 1 - a) * b))
    ∙ rw (signed_value_high w a (p.high refl) h, signed_value_low w b (q.low refl)) refl
product_in_range w a b false true h k p q =
    (λ j. nat_lt (low_magnitude w a (p.low refl) j * high_magnitude w b (q.high refl) k j) (2 ^ (w - 1) + 1))
    ∙ sym (fits_negative w (a * suc (2 ^ w - 1 - b)))
    ∙ rw (signed_value_low w a (p.low refl), signed_value_high w b (q.high refl) k) refl
product_in_range w a b false false h k p q =
    (λ j. nat_lt (low_magnitude w a (p.low refl) j * low_magnitude w b (q.low refl) j) (2 ^ (w - 1) + 0))
    ∙ sym (fits_positive w (a * b))
    ∙ rw (signed_value_low w a (p.low refl), signed_value_low w b (q.low refl)) refl

pub Product_fits : (e f g h : Form) (a b p q size_a size_b size : List Literal) (s t apart out : Literal) → length a ≡ length b → p ++ s ∷ [] ≡ a → q ++ t ∷ [] ≡ b → IsNumber e (length a + length a) size_a (λ x. magnitude (length a) (value_of a x)) → IsNumber e (length b + length b) size_b (λ x. magnitude (length b) (value_of b x)) → GrowsFreely e f → IsNumber f (length size_a) size (λ x. word_product (length size_a) (value_of size_a x) (value_of size_b x)) → GrowsFreely f g → IsTruth g apart (λ x. differs (literal_value x s) (literal_value x t)) → GrowsFreely g h → IsTruth h out (λ x. nat_lt (value_of size x) (2 ^ (length a - 1) + bit_value (literal_value x apart))) → IsTruth h out (λ x. product_fits (length a) (value_of a x) (value_of b x))
Product_fits e f g h a b p q size_a size_b size s t apart out same whole_a whole_b is_a is_b to_f is_size to_g is_apart to_h is_out = record {
  within = is_out.within;
  is = λ x all.
      let at_g = front to_h x all in
      let at_f = front to_g x at_g in
      let at_e = front to_f x at_f in
      let w = length a in
      let below_a : value_of a x < 2 ^ w = value_of-below x a in
      let below_b : value_of b x < 2 ^ w = subst (λ (n : ℕ). value_of b x < 2 ^ n) (sym same) (value_of-below x b) in
      let sign_b : IsSign w (value_of b x) (literal_value x t) = subst (λ (n : ℕ). IsSign n (value_of b x) (literal_value x t)) (sym same) (sign_is x q b t whole_b) in
      let number_b : value_of size_b x ≡ magnitude w (value_of b x) = is_b.is x at_e ∙ ap (λ (n : ℕ). magnitude n (value_of b x)) (sym same) in
      let product : value_of size x ≡ magnitude w (value_of a x) * magnitude w (value_of b x) =
      is_size.is x at_f ∙ (λ k. word_product (is_a.count k) (is_a.is x at_e k) (number_b k))
      ∙ word_product_double w (magnitude w (value_of a x)) (magnitude w (value_of b x)) (magnitude_below w (value_of a x) below_a) (magnitude_below w (value_of b x) below_b) in
      is_out.is x all
      ∙ (λ k. nat_lt (product k) (2 ^ (w - 1) + bit_value (is_apart.is x at_g k)))
      ∙ product_in_range w (value_of a x) (value_of b x) (literal_value x s) (literal_value x t) below_a below_b (sign_is x p a s whole_a) sign_b;
}

-- ---- left shifts

shift_in_range : (w a k : ℕ) → 1 ≤ w → a < 2 ^ w → k < w → nat_lt (left_shift (w + w) a k) (2 ^ (w - 1) + 0) ≡ left_shift_fits w a k
unfolding left_shift left_shift_fits fits_width
shift_in_range w a k h below small =
    let grows : 2 ^ k ≤ 2 ^ w = pow_grows k w (omega arith) in
    let product : a * 2 ^ k ≤ a * 2 ^ w = mul-le-mul_left a grows in
    let room : a * 2 ^ w < 2 ^ w * 2 ^ w = mul-lt-mul_of_pos_right below (pow_pos w) in
    let whole : (a * 2 ^ k) % 2 ^ (w + w) ≡ a * 2 ^ k = mod-eq_of_lt (omega (arith, pow-add 2 w w)) in
    let least : a * 1 ≤ a * 2 ^ k = mul-le-mul_left a (pow_pos k) in
    rw whole
    (elim (cases_lt a (2 ^ (w - 1))) [
      | inl p ↦ rw (signed_value_low w a p) (grind (arith, nat_tests))
      | inr q ↦ rw (signed_value_high w a q below) (grind (arith, nat_tests))
    ])

pub Shift_fits : (e f g : Form) (a count wide moved : List Literal) (none out : Literal) → 1 ≤ length a → IsWithin e.variables a → wide ≡ a ++ replicate (length a) none → IsTruth e none (λ x. false) → GrowsFreely e f → IsNumber f (length wide) moved (λ x. left_shift (length wide) (value_of wide x) (value_of count x)) → GrowsFreely f g → IsTruth g out (λ x. nat_lt (value_of moved x) (2 ^ (length a - 1) + bit_value (literal_value x none))) → IsShiftInRange g a count out
Shift_fits e f g a count wide moved none out some within is is_none to_f is_moved to_g is_out = record {
  within = is_out.within;
  is = λ x all small.
      let at_f = front to_g x all in
      let at_e = front to_f x at_f in
      let is_wide = Wide_is e (length a) a wide none (value_of a) is is_none (number_itself e a within) in
      let number : value_of moved x ≡ left_shift (length a + length a) (value_of a x) (value_of count x) =
      is_moved.is x at_f ∙ (λ k. left_shift (is_wide.count k) (is_wide.is x at_e k) (value_of count x)) in
      is_out.is x all
      ∙ (λ k. nat_lt (number k) (2 ^ (length a - 1) + bit_value (is_none.is x at_e k)))
      ∙ shift_in_range (length a) (value_of a x) (value_of count x) some (value_of-below x a) small;
}

-- by the width or more
shifted_far : (w a k : ℕ) → 1 ≤ w → a < 2 ^ w → w ≤ k → nat_eq a 0 ≡ left_shift_fits w a k
unfolding left_shift_fits fits_width
shifted_far w a k h below far =
    let grows : 2 ^ (w - 1) ≤ 2 ^ k = pow_grows (w - 1) k (omega arith) in
    let some = pow_pos (w - 1) in
    elim (cases_lt a (2 ^ (w - 1))) [
      | inl p ↦ rw (signed_value_low w a p) (far_low a (2 ^ k) (2 ^ (w - 1)) grows some)
      | inr q ↦ rw (signed_value_high w a q below) (grind (arith, nat_tests))
    ]
  where
    far_low : (a n m : ℕ) → m ≤ n → 0 < m → nat_eq a 0 ≡ (nat_le 0 a && nat_lt (a * n) m)
    far_low zero n m le some = grind (arith, nat_tests)
    far_low (suc a) n m le some = let more : 1 * n ≤ suc a * n = mul-le 1 n (suc a) n (omega arith) (omega arith) in grind (arith, nat_tests)

shifted_none : (w k : ℕ) → left_shift_fits w 0 k ≡ true
unfolding left_shift_fits fits_width
shifted_none w k =
    let some = pow_pos (w - 1) in
    rw (signed_value_low w 0 some) (let none : 0 * 2 ^ k ≡ 0 = omega arith in grind (arith, nat_tests))

or_true : (b : Bool) → (b || true) ≡ true
or_true true = refl
or_true false = refl

or_false : (b : Bool) → (b || false) ≡ b
or_false true = refl
or_false false = refl

shifted_any : (inside fits none : Bool) (w a k : ℕ) → 1 ≤ w → a < 2 ^ w → inside ≡ nat_lt k w → (k < w → fits ≡ left_shift_fits w a k) → none ≡ nat_eq a 0 → ((inside && fits) || none) ≡ left_shift_fits w a k
shifted_any true fits true w a k h below near is nothing =
    let same : a ≡ 0 = grind (arith, nat_tests) in
    or_true fits ∙ sym (ap (λ (n : ℕ). left_shift_fits w n k) same ∙ shifted_none w k)
shifted_any true fits false w a k h below near is nothing = or_false fits ∙ is (grind (arith, nat_tests))
shifted_any false fits none w a k h below near is nothing = nothing ∙ shifted_far w a k h below (grind (arith, nat_tests))

pub Left_shift_fits : (d e f g h i : Form) (a count low width zeros : List Literal) (off fits inside none both out : Literal) (n : ℕ) → 1 ≤ length a → length a ≡ length count → n ≤ length count → length a ≤ 2 ^ n → low ≡ take n count → IsTruth d off (λ x. false) → GrowsFreely d e → IsShiftInRange e a low fits → IsConstant off (length a) (length a) width → GrowsFreely e f → IsTruth f inside (λ x. nat_lt (value_of count x) (value_of width x)) → zeros ≡ replicate (length a) off → GrowsFreely f g → IsTruth g none (λ x. nat_eq (value_of a x) (value_of zeros x)) → GrowsFreely g h → IsTruth h both (λ x. literal_value x inside && literal_value x fits) → GrowsFreely h i → IsTruth i out (λ x. literal_value x both || literal_value x none) → IsTruth i out (λ x. left_shift_fits (length a) (value_of a x) (value_of count x))
Left_shift_fits d e f g h i a count low width zeros off fits inside none both out n some same enough wide is_low is_off to_e is_fits is_width to_f is_inside is_zeros to_g is_none to_h is_both to_i is_out = record {
  within = is_out.within;
  is = λ x all.
      let at_h = front to_i x all in
      let at_g = front to_h x at_h in
      let at_f = front to_g x at_g in
      let at_e = front to_f x at_f in
      let at_d : literal_value x off ≡ false = is_off.is x (front to_e x at_e) in
      let w : value_of width x ≡ length a = is_width.is x at_d (small_power (length a)) in
      let near : literal_value x inside ≡ nat_lt (value_of count x) (length a) = is_inside.is x at_f ∙ ap (nat_lt (value_of count x)) w in
      let nothing : value_of zeros x ≡ 0 = ap (λ (m : List Literal). value_of m x) is_zeros ∙ value_of-fill x (length a) off at_d in
      let tested : literal_value x none ≡ nat_eq (value_of a x) 0 = is_none.is x at_g ∙ ap (nat_eq (value_of a x)) nothing in
      let low_count : value_of count x < length a → value_of low x ≡ value_of count x =
      λ small. ap (λ (m : List Literal). value_of m x) is_low ∙ value_of-take x n count enough ∙ mod-eq_of_lt (omega arith) in
      is_out.is x all
      ∙ ap (λ (b : Bool). b || literal_value x none) (is_both.is x at_h)
      ∙ shifted_any (literal_value x inside) (literal_value x fits) (literal_value x none) (length a) (value_of a x) (value_of count x) some (value_of-below x a) near
      (λ small. is_fits.is x at_e (omega (arith, low_count small)) ∙ ap (left_shift_fits (length a) (value_of a x)) (low_count small)) tested;
}
