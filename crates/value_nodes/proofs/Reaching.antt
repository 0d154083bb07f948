-- Whether offsets and products of words are within a size, as whole numbers.
use Rattle.std.proofs.Common.{◌≡◌, ℕ, zero, suc, ◌+◌, ◌-◌, ◌*◌, ◌/◌, ◌%◌, ◌^◌, ◌<◌, ◌≤◌, ℤ, pos, negsuc, int_lt, nat_lt, Bool, true, false, not, ◌&&◌, ◌||◌, List, inl, inr, arith, refl, sym, ap, ◌∙◌}
use Rattle.std.specs.Prelude.{◌==◌, nat_le, unsigned_abs, neg_ℤ, ◌+ℤ◌, ◌*ℤ◌, if◌then◌else◌}
use Rattle.std.proofs.Math.Nat.{mod-eq_of_lt}
use Rattle.std.proofs.lemmas.Int.{ints}
use Rattle.std.proofs.lemmas.Bool.{cases_lt}
use Rattle.std.proofs.lemmas.Bool.Decides.{nat_tests}
use Rattle.words.specs.BitVector.{signed_value}
use Rattle.words.specs.Operators.{word_difference, word_negation, word_product, wrapped, fits_width, signed_lt}
use Rattle.words.proofs.Powers.{pow_grows}
use Rattle.words.proofs.Signed.{signed_value_low}
use Rattle.words.proofs.Views.{fits_width-signed_value}
use Rattle.std.proofs.lemmas.Nat.{div-add-mod', mod_below, pow_pos}
use Rattle.c_types.specs.declared.integers.IntegerType.{IntegerType}
use Rattle.c_types.specs.declared.integers.IntegerType.TheVariants as types
use Rattle.c_types.specs.Integers.{width as type_width, is_signed}
use Rattle.core_tree.specs.Operations.{number, converted}
use Rattle.actions.specs.Pointer.{object_of, offset_of}
use Rattle.c_values.specs.Pointers.{in_range, offset_by}
use Rattle.word_dag.specs.declared.nodes.Id.{Id}
use Rattle.word_dag.specs.declared.nodes.Node.{Node}
use Rattle.word_dag.specs.Meaning.{value, holds, bit_value}
use Rattle.word_dag.specs.Fitting.{is_ordered}
use Rattle.word_dag.specs.Growth.{Extends}
use Rattle.word_dag.proofs.Grown.{extends_more}
use Rattle.word_dag.proofs.Truth.{holds_bit, bit_holds}
use Rattle.value_nodes.specs.Values.{IsWord, IsValue, IsTest}
use Rattle.value_nodes.specs.Distances.{differ, goes_on, goes_back, stays_within}
use Rattle.value_nodes.proofs.Made.{word_below}
use Rattle.value_nodes.proofs.Checking.{same_test}
use Rattle.value_nodes.proofs.Distances.{positive, at_most_64}

-- ---- tests of numbers

test_true : (m n : ℕ) → m < n → nat_lt m n ≡ true
test_true m n h = grind (arith, nat_tests)

test_false : (m n : ℕ) → n ≤ m → nat_lt m n ≡ false
test_false m n h = grind (arith, nat_tests)

never_less : (a : ℕ) → nat_lt a 0 ≡ false
never_less a = test_false a 0 (omega arith)

at_most_by : (a b : ℕ) → not (nat_lt b a) ≡ nat_le a b
at_most_by a b = grind (arith, nat_tests)

outside_number : (o count whole : ℕ) → count ≤ whole → nat_lt (whole - count) o ≡ not (nat_le (o + count) whole)
outside_number o count whole few = grind (arith, nat_tests)

outside_all : (o count whole : ℕ) → whole < count → true ≡ not (nat_le (o + count) whole)
outside_all o count whole many = grind (arith, nat_tests)

-- bytes that don't lie within fewer, and others
pub outside_always : (d e : List Node) (p i : Id) (count whole : ℕ) → whole < count → IsTest e i (λ v. true) → IsTest e i (λ v. not (nat_le (offset_of (value v d p) + count) whole))
outside_always d e p i count whole many test = same_test e i (λ v. true) (λ v. not (nat_le (offset_of (value v d p) + count) whole)) test (λ v. outside_all (offset_of (value v d p)) count whole many)

pub outside_by : (d d1 e : List Node) (p o i : Id) (count whole : ℕ) → count ≤ whole → IsValue d1 o 32 (λ v. offset_of (value v d p)) → IsTest e i (λ v. nat_lt (whole - count) (value v d1 o)) → IsTest e i (λ v. not (nat_le (offset_of (value v d p) + count) whole))
outside_by d d1 e p o i count whole few made test =
    same_test e i (λ v. nat_lt (whole - count) (value v d1 o)) (λ v. not (nat_le (offset_of (value v d p) + count) whole)) test
    (λ v. ap (nat_lt (whole - count)) (made.value_is v) ∙ outside_number (offset_of (value v d p)) count whole few)

-- ---- products

offset_below : (p : ℕ) → offset_of p < 2 ^ 32
offset_below p = (let small : p % 2 ^ 32 < 2 ^ 32 = omega arith in small)

short_square : (a b : ℕ) → a < 2 ^ 32 → b < 2 ^ 32 → a * b < 2 ^ 64
short_square a b first second = grind arith

short_product : (a b : ℕ) → word_product 64 (offset_of a) (offset_of b) ≡ offset_of a * offset_of b
unfolding word_product
short_product a b = mod-eq_of_lt (short_square (offset_of a) (offset_of b) (offset_below a) (offset_below b))

pub low_product : (d d1 d2 d3 d4 e : List Node) (a b x y m limit i : Id) (most : ℕ) → Extends d d1 → Extends d1 d2 → Extends d2 d3 → Extends d3 d4 → IsWord d b 64 → IsValue d1 x 64 (λ v. offset_of (value v d a)) → IsValue d2 y 64 (λ v. offset_of (value v d1 b))
    → IsValue d3 m 64 (λ v. word_product 64 (value v d2 x) (value v d2 y)) → IsValue d4 limit 64 (λ v. most) → IsTest e i (λ v. not (nat_lt (value v d4 limit) (value v d4 m))) → IsTest e i (λ v. not (nat_lt most (offset_of (value v d a) * offset_of (value v d b))))
low_product d d1 d2 d3 d4 e a b x y m limit i most w1 w2 w3 w4 word first second product number test =
    same_test e i (λ v. not (nat_lt (value v d4 limit) (value v d4 m))) (λ v. not (nat_lt most (offset_of (value v d a) * offset_of (value v d b)))) test
    (λ v.
    let one : value v d2 x ≡ offset_of (value v d a) = w2.value_stays v x first.there ∙ first.value_is v in
    let two : value v d2 y ≡ offset_of (value v d b) = second.value_is v ∙ ap offset_of (w1.value_stays v b word.there) in
    let three : value v d4 m ≡ offset_of (value v d a) * offset_of (value v d b) = w4.value_stays v m product.there ∙ product.value_is v ∙ (λ k. word_product 64 (one k) (two k)) ∙ short_product (value v d a) (value v d b) in
    λ k. not (nat_lt (number.value_is v k) (three k)))

halves : (a : ℕ) → a ≡ object_of a * 2 ^ 32 + offset_of a
halves a = omega arith

-- a product of two factors that aren't 0, one of which is great
great_product : (a b most : ℕ) → most < 2 ^ 32 → 2 ^ 32 ≤ a → 1 ≤ b → most < a * b
great_product a b most few big one = grind arith

none_times : (b : ℕ) → 0 * b ≡ 0
none_times b = omega arith

times_none : (a : ℕ) → a * 0 ≡ 0
times_none a = omega arith

turned_product : (a b : ℕ) → a * b ≡ b * a
turned_product a b = grind arith

low_itself : (a : ℕ) → object_of a ≡ 0 → offset_of a ≡ a
low_itself a h = (let form : a / 2 ^ 32 ≡ 0 = h in let same : a % 2 ^ 32 ≡ a = omega (arith, form) in same)

is_great : (a : ℕ) → 1 ≤ object_of a → 2 ^ 32 ≤ a
is_great a h = (let form : 1 ≤ a / 2 ^ 32 = h in omega (arith, form))

le_true : (m n : ℕ) → m ≤ n → nat_le m n ≡ true
le_true m n h = grind (arith, nat_tests)

le_false : (m n : ℕ) → n < m → nat_le m n ≡ false
le_false m n h = grind (arith, nat_tests)

equal_0 : (n : ℕ) → n ≡ 0 → (n == 0) ≡ true
equal_0 n h = grind (arith, nat_tests)

unequal_0 : (n : ℕ) → 1 ≤ n → (n == 0) ≡ false
unequal_0 n h = grind (arith, nat_tests)

-- what the parts of the test say of two numbers
either_true : (x r : Bool) → x ≡ true → (x || r) ≡ true
either_true x r h = ap (λ (b : Bool). b || r) h

neither : (x y r : Bool) → x ≡ false → y ≡ false → ((x || y) || r) ≡ r
neither x y r h k = λ i. (h i || k i) || r

exceeds_number : (a b most : ℕ) → most < 2 ^ 32 → not (((a == 0) || (b == 0)) || (((object_of a == 0) && (object_of b == 0)) && not (nat_lt most (offset_of a * offset_of b)))) ≡ not (nat_le (a * b) most)
exceeds_number zero b most small = ap not (sym (ap (λ n. nat_le n most) (none_times b) ∙ le_true 0 most (omega arith)))
exceeds_number (suc a) zero most small =
    ap not (either_true ((suc a == 0) || (0 == 0)) (((object_of (suc a) == 0) && (object_of 0 == 0)) && not (nat_lt most (offset_of (suc a) * offset_of 0))) (ap (λ (b : Bool). b || (0 == 0)) (unequal_0 (suc a) (omega arith)))
    ∙ sym (ap (λ n. nat_le n most) (times_none (suc a)) ∙ le_true 0 most (omega arith)))
exceeds_number (suc a) (suc b) most small =
    ap not (neither (suc a == 0) (suc b == 0) (((object_of (suc a) == 0) && (object_of (suc b) == 0)) && not (nat_lt most (offset_of (suc a) * offset_of (suc b)))) (unequal_0 (suc a) (omega arith)) (unequal_0 (suc b) (omega arith))
    ∙ by (object_of (suc a)) (object_of (suc b)) refl refl)
  where
    by : (x y : ℕ) → object_of (suc a) ≡ x → object_of (suc b) ≡ y → (((x == 0) && (y == 0)) && not (nat_lt most (offset_of (suc a) * offset_of (suc b)))) ≡ nat_le (suc a * suc b) most
    by zero zero h k = (λ i. not (nat_lt most (low_itself (suc a) h i * low_itself (suc b) k i))) ∙ at_most_by (suc a * suc b) most
    by zero (suc y) h k =
        ap (λ (t : Bool). t && not (nat_lt most (offset_of (suc a) * offset_of (suc b)))) (unequal_0 (suc y) (omega arith))
        ∙ sym (le_false (suc a * suc b) most (let l = great_product (suc b) (suc a) most small (is_great (suc b) (omega (arith, k))) (omega arith) in omega (arith, l, turned_product (suc a) (suc b))))
    by (suc x) y h k =
        ap (λ (t : Bool). (t && (y == 0)) && not (nat_lt most (offset_of (suc a) * offset_of (suc b)))) (unequal_0 (suc x) (omega arith))
        ∙ sym (le_false (suc a * suc b) most (great_product (suc a) (suc b) most small (is_great (suc a) (omega (arith, h))) (omega arith)))

pub exceeds_by : (d d1 d2 d3 d4 d5 e : List Node) (a b zero short few small within i : Id) (most : ℕ) → is_ordered d ≡ true → IsWord d a 64 → IsWord d b 64 → most < 2 ^ 32 → Extends d d1 → Extends d1 d2 → Extends d2 d3 → Extends d3 d4
    → IsTest d1 zero (λ v. (value v d a == 0) || (value v d b == 0)) → IsTest d2 short (λ v. (object_of (value v d1 a) == 0) && (object_of (value v d1 b) == 0)) → IsTest d3 few (λ v. not (nat_lt most (offset_of (value v d2 a) * offset_of (value v d2 b))))
    → IsTest d4 small (λ v. holds (value v d3 short) && holds (value v d3 few)) → IsTest d5 within (λ v. holds (value v d4 zero) || holds (value v d4 small)) → IsTest e i (λ v. not (holds (value v d5 within)))
    → IsTest e i (λ v. not (nat_le (value v d a * value v d b) most))
exceeds_by d d1 d2 d3 d4 d5 e a b none short few small within i most ordered first second limit w1 w2 w3 w4 t1 t2 t3 t4 t5 test =
    same_test e i (λ v. not (holds (value v d5 within))) (λ v. not (nat_le (value v d a * value v d b) most)) test
    (λ v.
    let A = value v d a in
    let B = value v d b in
    let a1 = w1.value_stays v a first.there in
    let b1 = w1.value_stays v b second.there in
    let a2 : value v d2 a ≡ A = w2.value_stays v a (omega (arith, first.there, w1.longer)) ∙ a1 in
    let b2 : value v d2 b ≡ B = w2.value_stays v b (omega (arith, second.there, w1.longer)) ∙ b1 in
    let z : holds (value v d4 none) ≡ ((A == 0) || (B == 0)) =
    ap holds (w4.value_stays v none (omega (arith, t1.there, w2.longer, w3.longer)) ∙ w3.value_stays v none (omega (arith, t1.there, w2.longer)) ∙ w2.value_stays v none t1.there ∙ t1.value_is v) ∙ holds_bit ((A == 0) || (B == 0)) in
    let s : holds (value v d3 short) ≡ ((object_of A == 0) && (object_of B == 0)) =
    ap holds (w3.value_stays v short t2.there ∙ t2.value_is v ∙ (λ k. bit_value ((object_of (a1 k) == 0) && (object_of (b1 k) == 0)))) ∙ holds_bit ((object_of A == 0) && (object_of B == 0)) in
    let p : holds (value v d3 few) ≡ not (nat_lt most (offset_of A * offset_of B)) =
    ap holds (t3.value_is v ∙ (λ k. bit_value (not (nat_lt most (offset_of (a2 k) * offset_of (b2 k)))))) ∙ holds_bit (not (nat_lt most (offset_of A * offset_of B))) in
    let m : holds (value v d4 small) ≡ (((object_of A == 0) && (object_of B == 0)) && not (nat_lt most (offset_of A * offset_of B))) =
    ap holds (t4.value_is v ∙ (λ k. bit_value (s k && p k))) ∙ holds_bit (((object_of A == 0) && (object_of B == 0)) && not (nat_lt most (offset_of A * offset_of B))) in
    ap not (ap holds (t5.value_is v ∙ (λ k. bit_value (z k || m k))) ∙ holds_bit (((A == 0) || (B == 0)) || (((object_of A == 0) && (object_of B == 0)) && not (nat_lt most (offset_of A * offset_of B))))) ∙ exceeds_number A B most limit)

-- ---- signs

negative_number : (t : IntegerType) (a : ℕ) → is_signed t ≡ true → signed_lt (type_width t) a 0 ≡ int_lt (number t a) (pos 0)
unfolding signed_lt
negative_number t a signed =
    let w = type_width t in
    let zero_is : signed_value w 0 ≡ pos 0 = signed_value_low w 0 (pow_pos (w - 1)) in
    ap (int_lt (signed_value w a)) zero_is ∙ ap (λ (s : Bool). int_lt (if s then signed_value w a else pos a) (pos 0)) (sym signed)

pub negative_by : (d d1 e : List Node) (t : IntegerType) (w : ℕ) (a zero i : Id) → is_signed t ≡ true → w ≡ type_width t → Extends d d1 → IsWord d a (type_width t) → IsValue d1 zero w (λ v. 0) → IsTest e i (λ v. signed_lt (type_width t) (value v d1 a) (value v d1 zero))
    → IsTest e i (λ v. int_lt (number t (value v d a)) (pos 0))
negative_by d d1 e t w a c i signed same x word none test =
    same_test e i (λ v. signed_lt (type_width t) (value v d1 a) (value v d1 c)) (λ v. int_lt (number t (value v d a)) (pos 0)) test
    (λ v. (λ k. signed_lt (type_width t) (x.value_stays v a word.there k) (none.value_is v k)) ∙ negative_number t (value v d a) signed)

test_in_lt : (m n : ℕ) → nat_lt m n ≡ true → m < n
test_in_lt m n h = grind (arith, nat_tests)

small_power : (n w : ℕ) → w ≤ 64 → n < 2 ^ (w - 1) → n < 2 ^ 64
small_power n w most below = let wide = pow_grows (w - 1) 64 (omega (arith, most)) in omega (arith, below, wide)

lower_power : (n w : ℕ) → w ≤ 64 → n < 2 ^ (w - 1) → n < 2 ^ 63
lower_power n w most below = let wide = pow_grows (w - 1) 63 (omega (arith, most)) in omega (arith, below, wide)

never_below : (t : IntegerType) (a : ℕ) → is_signed t ≡ false → false ≡ int_lt (number t a) (pos 0)
never_below t a unsigned = sym (never_less a) ∙ ap (λ (s : Bool). int_lt (if s then signed_value (type_width t) a else pos a) (pos 0)) (sym unsigned)

pub never_negative : (d e : List Node) (t : IntegerType) (a i : Id) → is_signed t ≡ false → IsTest e i (λ v. false) → IsTest e i (λ v. int_lt (number t (value v d a)) (pos 0))
never_negative d e t a i unsigned test = same_test e i (λ v. false) (λ v. int_lt (number t (value v d a)) (pos 0)) test (λ v. never_below t (value v d a) unsigned)

-- how far a number is from 0
abs_of : (w : ℕ) (z : ℤ) → w ≤ 64 → fits_width w z ≡ true → (if int_lt z (pos 0) then word_negation 64 (wrapped 64 z) else wrapped 64 z) ≡ unsigned_abs z
unfolding fits_width wrapped word_negation
abs_of w (pos n) most h = (λ k. if never_less n k then (2 ^ 64 - n % 2 ^ 64) % 2 ^ 64 else n % 2 ^ 64) ∙ mod-eq_of_lt (small_power n w most (test_in_lt n (2 ^ (w - 1)) h))
abs_of w (negsuc n) most h =
    let low : n < 2 ^ 63 = lower_power n w most (test_in_lt n (2 ^ (w - 1)) h) in
    let same : n % 2 ^ 64 ≡ n = mod-eq_of_lt (let l : n < 2 ^ 64 = omega (arith, low) in l) in
    let back : 2 ^ 64 - (2 ^ 64 - 1 - n) ≡ suc n = omega (arith, low) in
    (λ k. (2 ^ 64 - (2 ^ 64 - 1 - same k)) % 2 ^ 64) ∙ ap (λ m. m % 2 ^ 64) back ∙ mod-eq_of_lt (let l : suc n < 2 ^ 64 = omega (arith, low) in l)

distance_by_sign : (s : Bool) (w a : ℕ) → 1 ≤ w → w ≤ 64 → a < 2 ^ w
    → (if int_lt (if s then signed_value w a else pos a) (pos 0) then word_negation 64 (wrapped 64 (if s then signed_value w a else pos a)) else wrapped 64 (if s then signed_value w a else pos a)) ≡ unsigned_abs (if s then signed_value w a else pos a)
unfolding wrapped
distance_by_sign true w a some most below = abs_of w (signed_value w a) most (fits_width-signed_value w a some below)
distance_by_sign false w a some most below = (λ k. if never_less a k then word_negation 64 (a % 2 ^ 64) else a % 2 ^ 64) ∙ mod-eq_of_lt (let wide = pow_grows w 64 most in let l : a < 2 ^ 64 = omega (arith, below, wide) in l)

distance_number : (t : IntegerType) (a : ℕ) → a < 2 ^ type_width t → (if int_lt (number t a) (pos 0) then word_negation 64 (converted t types.UnsignedLong a) else converted t types.UnsignedLong a) ≡ unsigned_abs (number t a)
distance_number t a below = distance_by_sign (is_signed t) (type_width t) a (positive t) (at_most_64 t) below

pub distance_by : (d d1 e : List Node) (t : IntegerType) (a negative wide i : Id) → is_ordered d ≡ true → IsWord d a (type_width t) → Extends d d1 → IsTest d negative (λ v. int_lt (number t (value v d a)) (pos 0)) → IsValue d1 wide 64 (λ v. converted t types.UnsignedLong (value v d a))
    → IsValue e i 64 (λ v. if holds (value v d1 negative) then word_negation 64 (value v d1 wide) else value v d1 wide) → IsValue e i 64 (λ v. unsigned_abs (number t (value v d a)))
distance_by d d1 e t a negative wide i ordered word x test made chosen = record {
  there = chosen.there;
  width_is = chosen.width_is;
  value_is = λ v.
      let b : holds (value v d1 negative) ≡ int_lt (number t (value v d a)) (pos 0) = ap holds (x.value_stays v negative test.there ∙ test.value_is v) ∙ holds_bit (int_lt (number t (value v d a)) (pos 0)) in
      chosen.value_is v ∙ (λ k. if b k then word_negation 64 (made.value_is v k) else made.value_is v k) ∙ distance_number t (value v d a) (word_below v d a (type_width t) ordered word);
}

-- ---- steps

widened : (q c f : ℕ) → (suc q + c) * f ≡ q * f + f + c * f
widened q c f = grind arith

spread : (a c f : ℕ) → (a + c) * f ≡ a * f + c * f
spread a c f = grind arith

short_number : (a factor : ℕ) → 2 ≤ factor → not (nat_lt ((2 ^ 64 - 1) / factor) a) ≡ nat_lt (a * factor) (2 ^ 64)
short_number a f some =
    let q = (2 ^ 64 - 1) / f in
    let r = (2 ^ 64 - 1) % f in
    let split : q * f + r ≡ 2 ^ 64 - 1 = div-add-mod' (2 ^ 64 - 1) f in
    let rest : r < f = mod_below (2 ^ 64 - 1) f (omega (arith, some)) in
    elim (cases_lt q a) [
      | inl above ↦ (
          let c = a - suc q in
          let form : a ≡ suc q + c = omega (arith, above) in
          let product : a * f ≡ q * f + f + c * f = ap (λ n. n * f) form ∙ widened q c f in
          let many : 2 ^ 64 ≤ a * f = omega (arith, product, split, rest) in
          (λ k. not (test_true q a above k)) ∙ sym (test_false (a * f) (2 ^ 64) many))
      | inr within ↦ (
          let c = q - a in
          let form : q ≡ a + c = omega (arith, within) in
          let product : q * f ≡ a * f + c * f = ap (λ n. n * f) form ∙ spread a c f in
          let few : a * f < 2 ^ 64 = omega (arith, product, split) in
          (λ k. not (test_false q a within k)) ∙ sym (test_true (a * f) (2 ^ 64) few))
    ]

short_all : (a factor : ℕ) → factor < 2 → a < 2 ^ 64 → true ≡ nat_lt (a * factor) (2 ^ 64)
short_all a zero few below = sym (test_true (a * 0) (2 ^ 64) (omega arith))
short_all a (suc zero) few below = sym (test_true (a * 1) (2 ^ 64) (omega (arith, below)))
short_all a (suc (suc f)) few below = absurd (omega (arith, few))

pub short_always : (d e : List Node) (a i : Id) (factor : ℕ) → is_ordered d ≡ true → IsWord d a 64 → factor < 2 → IsTest e i (λ v. true) → IsTest e i (λ v. nat_lt (value v d a * factor) (2 ^ 64))
short_always d e a i factor ordered word few test = same_test e i (λ v. true) (λ v. nat_lt (value v d a * factor) (2 ^ 64)) test (λ v. short_all (value v d a) factor few (word_below v d a 64 ordered word))

pub short_by : (d d1 e : List Node) (a limit i : Id) (factor : ℕ) → Extends d d1 → IsWord d a 64 → 2 ≤ factor → IsValue d1 limit 64 (λ v. (2 ^ 64 - 1) / factor) → IsTest e i (λ v. not (nat_lt (value v d1 limit) (value v d1 a))) → IsTest e i (λ v. nat_lt (value v d a * factor) (2 ^ 64))
short_by d d1 e a limit i factor x word some made test =
    same_test e i (λ v. not (nat_lt (value v d1 limit) (value v d1 a))) (λ v. nat_lt (value v d a * factor) (2 ^ 64)) test
    (λ v. (λ k. not (nat_lt (made.value_is v k) (x.value_stays v a word.there k))) ∙ short_number (value v d a) factor some)

-- what is left where it is enough
left_is : (a b : ℕ) → a < 2 ^ 64 → b ≤ a → word_difference 64 a b ≡ a - b
unfolding word_difference
left_is a b below le = (let form : a + 2 ^ 64 - b ≡ (a - b) + 1 * 2 ^ 64 = omega (arith, le) in ap (λ n. n % 2 ^ 64) form) ∙ wraps (a - b) (omega (arith, below))
  where
    wraps : (n : ℕ) → n < 2 ^ 64 → (n + 1 * 2 ^ 64) % 2 ^ 64 ≡ n
    wraps n h = omega (arith, h)

test_in : (a b : ℕ) → nat_le a b ≡ true → a ≤ b
test_in a b h = grind (arith, nat_tests)

on_number : (offset distance size : ℕ) → size < 2 ^ 64 → (not (nat_lt size distance) && not (nat_lt (word_difference 64 size distance) offset)) ≡ goes_on offset distance size
on_number offset distance size below = ap (λ (b : Bool). b && not (nat_lt (word_difference 64 size distance) offset)) (at_most_by distance size) ∙ by (nat_le distance size) refl
  where
    by : (b : Bool) → b ≡ nat_le distance size → (b && not (nat_lt (word_difference 64 size distance) offset)) ≡ (b && nat_le offset (size - distance))
    by true is = ap (λ n. not (nat_lt n offset)) (left_is size distance below (test_in distance size (sym is))) ∙ at_most_by offset (size - distance)
    by false is = refl

back_number : (offset distance size : ℕ) → offset < 2 ^ 64 → (not (nat_lt offset distance) && not (nat_lt size (word_difference 64 offset distance))) ≡ goes_back offset distance size
back_number offset distance size below = ap (λ (b : Bool). b && not (nat_lt size (word_difference 64 offset distance))) (at_most_by distance offset) ∙ by (nat_le distance offset) refl
  where
    by : (b : Bool) → b ≡ nat_le distance offset → (b && not (nat_lt size (word_difference 64 offset distance))) ≡ (b && nat_le (offset - distance) size)
    by true is = ap (λ n. not (nat_lt size n)) (left_is offset distance below (test_in distance offset (sym is))) ∙ at_most_by (offset - distance) size
    by false is = refl

pub on_by : (d d1 d2 d3 e : List Node) (offset distance size first rest second i : Id) → is_ordered d ≡ true → IsWord d offset 64 → IsWord d distance 64 → IsWord d size 64 → Extends d d1 → Extends d1 d2 → Extends d2 d3
    → IsTest d1 first (λ v. not (nat_lt (value v d size) (value v d distance))) → IsValue d2 rest 64 (λ v. word_difference 64 (value v d1 size) (value v d1 distance)) → IsTest d3 second (λ v. not (nat_lt (value v d2 rest) (value v d2 offset)))
    → IsTest e i (λ v. holds (value v d3 first) && holds (value v d3 second)) → IsTest e i (λ v. goes_on (value v d offset) (value v d distance) (value v d size))
on_by d d1 d2 d3 e offset distance size first rest second i ordered wo wd ws x y z t1 r t2 test =
    same_test e i (λ v. holds (value v d3 first) && holds (value v d3 second)) (λ v. goes_on (value v d offset) (value v d distance) (value v d size)) test
    (λ v.
    let a : holds (value v d3 first) ≡ not (nat_lt (value v d size) (value v d distance)) =
    ap holds (z.value_stays v first (omega (arith, t1.there, y.longer)) ∙ y.value_stays v first t1.there ∙ t1.value_is v) ∙ holds_bit (not (nat_lt (value v d size) (value v d distance))) in
    let left : value v d2 rest ≡ word_difference 64 (value v d size) (value v d distance) = r.value_is v ∙ (λ k. word_difference 64 (x.value_stays v size ws.there k) (x.value_stays v distance wd.there k)) in
    let o : value v d2 offset ≡ value v d offset = y.value_stays v offset (omega (arith, wo.there, x.longer)) ∙ x.value_stays v offset wo.there in
    let b : holds (value v d3 second) ≡ not (nat_lt (word_difference 64 (value v d size) (value v d distance)) (value v d offset)) =
    ap holds (t2.value_is v ∙ (λ k. bit_value (not (nat_lt (left k) (o k))))) ∙ holds_bit (not (nat_lt (word_difference 64 (value v d size) (value v d distance)) (value v d offset))) in
    (λ k. a k && b k) ∙ on_number (value v d offset) (value v d distance) (value v d size) (word_below v d size 64 ordered ws))

pub back_by : (d d1 d2 d3 e : List Node) (offset distance size first rest second i : Id) → is_ordered d ≡ true → IsWord d offset 64 → IsWord d distance 64 → IsWord d size 64 → Extends d d1 → Extends d1 d2 → Extends d2 d3
    → IsTest d1 first (λ v. not (nat_lt (value v d offset) (value v d distance))) → IsValue d2 rest 64 (λ v. word_difference 64 (value v d1 offset) (value v d1 distance)) → IsTest d3 second (λ v. not (nat_lt (value v d2 size) (value v d2 rest)))
    → IsTest e i (λ v. holds (value v d3 first) && holds (value v d3 second)) → IsTest e i (λ v. goes_back (value v d offset) (value v d distance) (value v d size))
back_by d d1 d2 d3 e offset distance size first rest second i ordered wo wd ws x y z t1 r t2 test =
    same_test e i (λ v. holds (value v d3 first) && holds (value v d3 second)) (λ v. goes_back (value v d offset) (value v d distance) (value v d size)) test
    (λ v.
    let a : holds (value v d3 first) ≡ not (nat_lt (value v d offset) (value v d distance)) =
    ap holds (z.value_stays v first (omega (arith, t1.there, y.longer)) ∙ y.value_stays v first t1.there ∙ t1.value_is v) ∙ holds_bit (not (nat_lt (value v d offset) (value v d distance))) in
    let left : value v d2 rest ≡ word_difference 64 (value v d offset) (value v d distance) = r.value_is v ∙ (λ k. word_difference 64 (x.value_stays v offset wo.there k) (x.value_stays v distance wd.there k)) in
    let s : value v d2 size ≡ value v d size = y.value_stays v size (omega (arith, ws.there, x.longer)) ∙ x.value_stays v size ws.there in
    let b : holds (value v d3 second) ≡ not (nat_lt (value v d size) (word_difference 64 (value v d offset) (value v d distance))) =
    ap holds (t2.value_is v ∙ (λ k. bit_value (not (nat_lt (s k) (left k))))) ∙ holds_bit (not (nat_lt (value v d size) (word_difference 64 (value v d offset) (value v d distance)))) in
    (λ k. a k && b k) ∙ back_number (value v d offset) (value v d distance) (value v d size) (word_below v d offset 64 ordered wo))

chosen_test : (b x y : Bool) → (if b then bit_value x else bit_value y) ≡ bit_value (if b then x else y)
chosen_test true x y = refl
chosen_test false x y = refl

pub stays_by : (d d1 d2 e : List Node) (back offset distance size first second i : Id) → IsWord d back 1 → IsWord d offset 64 → IsWord d distance 64 → IsWord d size 64 → Extends d d1 → Extends d1 d2
    → IsTest d1 first (λ v. goes_back (value v d offset) (value v d distance) (value v d size)) → IsTest d2 second (λ v. goes_on (value v d1 offset) (value v d1 distance) (value v d1 size))
    → IsValue e i 1 (λ v. if holds (value v d2 back) then value v d2 first else value v d2 second) → IsTest e i (λ v. stays_within (holds (value v d back)) (value v d offset) (value v d distance) (value v d size))
stays_by d d1 d2 e back offset distance size first second i wb wo wd ws x y t1 t2 made = record {
  there = made.there;
  width_is = made.width_is;
  value_is = λ v.
      let b : value v d2 back ≡ value v d back = y.value_stays v back (omega (arith, wb.there, x.longer)) ∙ x.value_stays v back wb.there in
      let one : value v d2 first ≡ bit_value (goes_back (value v d offset) (value v d distance) (value v d size)) = y.value_stays v first t1.there ∙ t1.value_is v in
      let two : value v d2 second ≡ bit_value (goes_on (value v d offset) (value v d distance) (value v d size)) =
      t2.value_is v ∙ (λ k. bit_value (goes_on (x.value_stays v offset wo.there k) (x.value_stays v distance wd.there k) (x.value_stays v size ws.there k))) in
      made.value_is v ∙ (λ k. if holds (b k) then one k else two k) ∙ chosen_test (holds (value v d back)) (goes_back (value v d offset) (value v d distance) (value v d size)) (goes_on (value v d offset) (value v d distance) (value v d size));
}

pub steps_by : (d d1 d2 d3 e : List Node) (back offset count size short distance within i : Id) (factor : ℕ) → IsWord d back 1 → IsWord d offset 64 → IsWord d count 64 → IsWord d size 64 → Extends d d1 → Extends d1 d2 → Extends d2 d3
    → IsTest d1 short (λ v. nat_lt (value v d count * factor) (2 ^ 64)) → IsValue d2 distance 64 (λ v. word_product 64 (value v d1 count) factor) → IsTest d3 within (λ v. stays_within (holds (value v d2 back)) (value v d2 offset) (value v d2 distance) (value v d2 size))
    → IsTest e i (λ v. holds (value v d3 short) && holds (value v d3 within)) → IsTest e i (λ v. nat_lt (value v d count * factor) (2 ^ 64) && stays_within (holds (value v d back)) (value v d offset) (word_product 64 (value v d count) factor) (value v d size))
steps_by d d1 d2 d3 e back offset count size short distance within i factor wb wo wc ws x y z t1 r t2 test =
    same_test e i (λ v. holds (value v d3 short) && holds (value v d3 within)) (λ v. nat_lt (value v d count * factor) (2 ^ 64) && stays_within (holds (value v d back)) (value v d offset) (word_product 64 (value v d count) factor) (value v d size)) test
    (λ v.
    let xy : Extends d d2 = extends_more d d1 d2 x y in
    let a : holds (value v d3 short) ≡ nat_lt (value v d count * factor) (2 ^ 64) =
    ap holds (z.value_stays v short (omega (arith, t1.there, y.longer)) ∙ y.value_stays v short t1.there ∙ t1.value_is v) ∙ holds_bit (nat_lt (value v d count * factor) (2 ^ 64)) in
    let far : value v d2 distance ≡ word_product 64 (value v d count) factor = r.value_is v ∙ (λ k. word_product 64 (x.value_stays v count wc.there k) factor) in
    let b : holds (value v d3 within) ≡ stays_within (holds (value v d back)) (value v d offset) (word_product 64 (value v d count) factor) (value v d size) =
    ap holds (t2.value_is v ∙ (λ k. bit_value (stays_within (holds (xy.value_stays v back wb.there k)) (xy.value_stays v offset wo.there k) (far k) (xy.value_stays v size ws.there k))))
    ∙ holds_bit (stays_within (holds (value v d back)) (value v d offset) (word_product 64 (value v d count) factor) (value v d size)) in
    λ k. a k && b k)

-- ---- whole numbers

turned_number : (b : Bool) (z : ℤ) → int_lt z (pos 0) ≡ true → not b ≡ differ b (int_lt z (pos 0))
turned_number b z h = ap (λ (c : Bool). if c then not b else b) (sym h)

same_number : (b : Bool) (z : ℤ) → int_lt z (pos 0) ≡ false → b ≡ differ b (int_lt z (pos 0))
same_number b z h = ap (λ (c : Bool). if c then not b else b) (sym h)

pub turned_by : (d e : List Node) (negative i : Id) (z : ℤ) → int_lt z (pos 0) ≡ true → IsTest e i (λ v. not (holds (value v d negative))) → IsTest e i (λ v. differ (holds (value v d negative)) (int_lt z (pos 0)))
turned_by d e negative i z h test = same_test e i (λ v. not (holds (value v d negative))) (λ v. differ (holds (value v d negative)) (int_lt z (pos 0))) test (λ v. turned_number (holds (value v d negative)) z h)

pub same_way : (d : List Node) (negative : Id) (z : ℤ) → is_ordered d ≡ true → int_lt z (pos 0) ≡ false → IsWord d negative 1 → IsTest d negative (λ v. differ (holds (value v d negative)) (int_lt z (pos 0)))
same_way d negative z ordered h word = record {
  there = word.there;
  width_is = word.width_is;
  value_is = λ v. sym (bit_holds (value v d negative) (word_below v d negative 1 ordered word)) ∙ ap bit_value (same_number (holds (value v d negative)) z h);
}

first_of : (b : Bool) (x y : ℤ) → b ≡ true → (if b then x else y) ≡ x
first_of b x y h = λ k. if h k then x else y

second_of : (b : Bool) (x y : ℤ) → b ≡ false → (if b then x else y) ≡ y
second_of b x y h = λ k. if h k then x else y

times_negative : (a c : ℕ) → pos a *ℤ negsuc c ≡ neg_ℤ (pos (a * suc c))
times_negative a c = refl

negative_times : (a c : ℕ) → negsuc a *ℤ pos c ≡ neg_ℤ (pos (suc a * c))
negative_times a c = refl

-- the product of two numbers by how far they are from 0
signed_product : (o : ℕ) (i s : ℤ) → offset_by o i s ≡ (if differ (int_lt i (pos 0)) (int_lt s (pos 0)) then pos o +ℤ neg_ℤ (pos (unsigned_abs i * unsigned_abs s)) else pos (o + unsigned_abs i * unsigned_abs s))
signed_product o (pos a) (pos c) = sym (second_of (differ (nat_lt a 0) (nat_lt c 0)) (pos o +ℤ neg_ℤ (pos (a * c))) (pos (o + a * c)) (λ k. differ (never_less a k) (never_less c k)))
signed_product o (pos a) (negsuc c) = ap (λ z. pos o +ℤ z) (times_negative a c) ∙ sym (first_of (not (nat_lt a 0)) (pos o +ℤ neg_ℤ (pos (a * suc c))) (pos (o + a * suc c)) (ap not (never_less a)))
signed_product o (negsuc a) (pos c) = ap (λ z. pos o +ℤ z) (negative_times a c) ∙ sym (first_of (differ true (nat_lt c 0)) (pos o +ℤ neg_ℤ (pos (suc a * c))) (pos (o + suc a * c)) (ap (differ true) (never_less c)))
signed_product o (negsuc a) (negsuc c) = refl

range_on : (o P size : ℕ) → goes_on o P size ≡ in_range (pos (o + P)) size
range_on o P size = grind (arith, nat_tests)

range_back : (o P size : ℕ) → goes_back o P size ≡ in_range (pos o +ℤ neg_ℤ (pos P)) size
range_back o P size = elim (cases_lt o P) [
  | inl less ↦ (
      let z : pos o +ℤ neg_ℤ (pos P) ≡ negsuc (P - suc o) = omega (arith, ints, less) in
      (λ k. le_false P o less k && nat_le (o - P) size) ∙ sym (ap (λ y. in_range y size) z))
  | inr more ↦ (
      let z : pos o +ℤ neg_ℤ (pos P) ≡ pos (o - P) = omega (arith, ints, more) in
      (λ k. le_true P o more k && nat_le (o - P) size) ∙ plain (o - P) size ∙ sym (ap (λ y. in_range y size) z))
]
  where
    plain : (n size : ℕ) → nat_le n size ≡ in_range (pos n) size
    plain n size = grind (arith, nat_tests)

within_by : (back : Bool) (o P size : ℕ) → stays_within back o P size ≡ in_range (if back then pos o +ℤ neg_ℤ (pos P) else pos (o + P)) size
within_by true o P size = range_back o P size
within_by false o P size = range_on o P size

too_far : (back : Bool) (o P size : ℕ) → o < 2 ^ 32 → size < 2 ^ 64 → 2 ^ 64 ≤ P → false ≡ in_range (if back then pos o +ℤ neg_ℤ (pos P) else pos (o + P)) size
too_far true o P size small below many = (λ k. sym (le_false P o (omega (arith, small, many))) k && nat_le (o - P) size) ∙ range_back o P size
too_far false o P size small below many = (λ k. sym (le_false P size (omega (arith, below, many))) k && nat_le o (size - P)) ∙ range_on o P size

-- the offset is in range where so many steps back, or on, are
range_is : (o size : ℕ) (i s : ℤ) → o < 2 ^ 32 → size < 2 ^ 64
    → (nat_lt (unsigned_abs i * unsigned_abs s) (2 ^ 64) && stays_within (differ (int_lt i (pos 0)) (int_lt s (pos 0))) o (word_product 64 (unsigned_abs i) (unsigned_abs s)) size) ≡ in_range (offset_by o i s) size
unfolding word_product
range_is o size i s small below =
    let P = unsigned_abs i * unsigned_abs s in
    let back = differ (int_lt i (pos 0)) (int_lt s (pos 0)) in
    let form : offset_by o i s ≡ (if back then pos o +ℤ neg_ℤ (pos P) else pos (o + P)) = signed_product o i s in
    elim (cases_lt P (2 ^ 64)) [
      | inl few ↦ (λ k. test_true P (2 ^ 64) few k && stays_within back o (word_short P few k) size) ∙ within_by back o P size ∙ sym (ap (λ z. in_range z size) form)
      | inr many ↦ (λ k. test_false P (2 ^ 64) many k && stays_within back o (P % 2 ^ 64) size) ∙ too_far back o P size small below many ∙ sym (ap (λ z. in_range z size) form)
    ]
  where
    word_short : (n : ℕ) → n < 2 ^ 64 → n % 2 ^ 64 ≡ n
    word_short n h = mod-eq_of_lt h

pub leaves_by : (d d1 d2 d3 d4 d5 e : List Node) (t : IntegerType) (step : ℤ) (p index size offset negative count back within i : Id) → is_ordered d ≡ true → IsWord d p 64 → IsWord d index (type_width t) → IsWord d size 64 → Extends d d1 → Extends d1 d2 → Extends d2 d3 → Extends d3 d4
    → IsValue d1 offset 64 (λ v. offset_of (value v d p)) → IsTest d2 negative (λ v. int_lt (number t (value v d1 index)) (pos 0)) → IsValue d3 count 64 (λ v. unsigned_abs (number t (value v d2 index))) → IsTest d4 back (λ v. differ (holds (value v d3 negative)) (int_lt step (pos 0)))
    → IsTest d5 within (λ v. nat_lt (value v d4 count * unsigned_abs step) (2 ^ 64) && stays_within (holds (value v d4 back)) (value v d4 offset) (word_product 64 (value v d4 count) (unsigned_abs step)) (value v d4 size))
    → IsTest e i (λ v. not (holds (value v d5 within))) → IsTest e i (λ v. not (in_range (offset_by (offset_of (value v d p)) (number t (value v d index)) step) (value v d size)))
leaves_by d d1 d2 d3 d4 d5 e t step p index size offset negative count back within i ordered wp wi ws x y z w t1 t2 t3 t4 t5 test =
    same_test e i (λ v. not (holds (value v d5 within))) (λ v. not (in_range (offset_by (offset_of (value v d p)) (number t (value v d index)) step) (value v d size))) test
    (λ v.
    let xy : Extends d d2 = extends_more d d1 d2 x y in
    let xyz : Extends d d3 = extends_more d d2 d3 xy z in
    let all : Extends d d4 = extends_more d d3 d4 xyz w in
    let n : value v d1 index ≡ value v d index = x.value_stays v index wi.there in
    let neg : holds (value v d3 negative) ≡ int_lt (number t (value v d index)) (pos 0) = ap holds (z.value_stays v negative t2.there ∙ t2.value_is v ∙ (λ k. bit_value (int_lt (number t (n k)) (pos 0)))) ∙ holds_bit (int_lt (number t (value v d index)) (pos 0)) in
    let c : value v d4 count ≡ unsigned_abs (number t (value v d index)) = w.value_stays v count t3.there ∙ t3.value_is v ∙ (λ k. unsigned_abs (number t (xy.value_stays v index wi.there k))) in
    let b : holds (value v d4 back) ≡ differ (int_lt (number t (value v d index)) (pos 0)) (int_lt step (pos 0)) = ap holds (t4.value_is v ∙ (λ k. bit_value (differ (neg k) (int_lt step (pos 0))))) ∙ holds_bit (differ (int_lt (number t (value v d index)) (pos 0)) (int_lt step (pos 0))) in
    let o : value v d4 offset ≡ offset_of (value v d p) = w.value_stays v offset (omega (arith, t1.there, y.longer, z.longer)) ∙ z.value_stays v offset (omega (arith, t1.there, y.longer)) ∙ y.value_stays v offset t1.there ∙ t1.value_is v in
    let M = unsigned_abs (number t (value v d index)) in
    let B = differ (int_lt (number t (value v d index)) (pos 0)) (int_lt step (pos 0)) in
    let whole : (nat_lt (value v d4 count * unsigned_abs step) (2 ^ 64) && stays_within (holds (value v d4 back)) (value v d4 offset) (word_product 64 (value v d4 count) (unsigned_abs step)) (value v d4 size))
    ≡ (nat_lt (M * unsigned_abs step) (2 ^ 64) && stays_within B (offset_of (value v d p)) (word_product 64 M (unsigned_abs step)) (value v d size)) =
    (λ k. nat_lt (c k * unsigned_abs step) (2 ^ 64) && stays_within (b k) (o k) (word_product 64 (c k) (unsigned_abs step)) (all.value_stays v size ws.there k)) in
    ap not (ap holds (t5.value_is v ∙ ap bit_value whole) ∙ holds_bit _ ∙ range_is (offset_of (value v d p)) (value v d size) (number t (value v d index)) step (offset_below (value v d p)) (word_below v d size 64 ordered ws)))

-- the same where the code has the step, and how far it is from 0, as words
pub leaves_stepped : (d d1 d2 d3 d4 d5 e : List Node) (t : IntegerType) (step s : ℤ) (f : ℕ) (p index size offset negative count back within i : Id) → is_ordered d ≡ true → IsWord d p 64 → IsWord d index (type_width t) → IsWord d size 64 → s ≡ step → f ≡ unsigned_abs step → Extends d d1 → Extends d1 d2 → Extends d2 d3 → Extends d3 d4
    → IsValue d1 offset 64 (λ v. offset_of (value v d p)) → IsTest d2 negative (λ v. int_lt (number t (value v d1 index)) (pos 0)) → IsValue d3 count 64 (λ v. unsigned_abs (number t (value v d2 index))) → IsTest d4 back (λ v. differ (holds (value v d3 negative)) (int_lt s (pos 0)))
    → IsTest d5 within (λ v. nat_lt (value v d4 count * f) (2 ^ 64) && stays_within (holds (value v d4 back)) (value v d4 offset) (word_product 64 (value v d4 count) f) (value v d4 size))
    → IsTest e i (λ v. not (holds (value v d5 within))) → IsTest e i (λ v. not (in_range (offset_by (offset_of (value v d p)) (number t (value v d index)) step) (value v d size)))
leaves_stepped d d1 d2 d3 d4 d5 e t step s f p index size offset negative count back within i ordered wp wi ws same far x y z w t1 t2 t3 t4 t5 test =
    leaves_by d d1 d2 d3 d4 d5 e t step p index size offset negative count back within i ordered wp wi ws x y z w t1 t2 t3
    (same_test d4 back (λ v. differ (holds (value v d3 negative)) (int_lt s (pos 0))) (λ v. differ (holds (value v d3 negative)) (int_lt step (pos 0))) t4 (λ v. ap (λ n. differ (holds (value v d3 negative)) (int_lt n (pos 0))) same))
    (same_test d5 within (λ v. nat_lt (value v d4 count * f) (2 ^ 64) && stays_within (holds (value v d4 back)) (value v d4 offset) (word_product 64 (value v d4 count) f) (value v d4 size))
    (λ v. nat_lt (value v d4 count * unsigned_abs step) (2 ^ 64) && stays_within (holds (value v d4 back)) (value v d4 offset) (word_product 64 (value v d4 count) (unsigned_abs step)) (value v d4 size))
    t5 (λ v. ap (λ n. nat_lt (value v d4 count * n) (2 ^ 64) && stays_within (holds (value v d4 back)) (value v d4 offset) (word_product 64 (value v d4 count) n) (value v d4 size)) far))
    test
