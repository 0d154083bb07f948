-- The steps of a ripple-carry adder.
use Rattle.std.proofs.Common.{◌≡◌, ℕ, suc, ◌+◌, ◌*◌, ◌%◌, ◌^◌, ◌<◌, Bool, true, false, List, [], ◌∷◌, ◌++◌, length, refl, sym, ap, ◌∙◌, arith}
use Rattle.std.proofs.Math.Nat.{pow-succ'}
use Rattle.std.proofs.lemmas.Nat.{mod-mul-add}
use Rattle.std.proofs.lemmas.List.{length-append}
use Rattle.sat_form.specs.Satisfaction.{Literal, Form, literal_value}
use Rattle.sat_form.specs.Numbers.{bit_value, value_of}
use Rattle.sat_form.proofs.Numbering.{value_of-append, value_of-below}
use Rattle.sat_form.proofs.Within.{IsWithin-weaker, IsWithin-push}
use Rattle.words.specs.Operators.{word_sum}
use Rattle.gate_bits.specs.Growth.{GrowsFreely}
use Rattle.gate_bits.specs.Truth.{IsTruth, IsNumber, differs, most}
use Rattle.gate_bits.specs.Sums.{IsBitSum, IsSum}
use Rattle.gate_bits.proofs.Growing.{front}

-- ---- bits

pub full_adder_table : (a b c : Bool) → bit_value (differs (differs a b) c) + 2 * bit_value (most a b c) ≡ bit_value a + bit_value b + bit_value c
full_adder_table true true true = refl
full_adder_table true true false = refl
full_adder_table true false true = refl
full_adder_table true false false = refl
full_adder_table false true true = refl
full_adder_table false true false = refl
full_adder_table false false true = refl
full_adder_table false false false = refl

-- ---- lists

pub power_more : (n : ℕ) → 2 ^ (n + 1) ≡ 2 * 2 ^ n
power_more n =
    let next : n + 1 ≡ suc n = omega arith in
    ap (λ (m : ℕ). 2 ^ m) next ∙ pow-succ' 2 n

pub value_of-push : (x : ℕ → Bool) (ls : List Literal) (l : Literal) → value_of (ls ++ l ∷ []) x ≡ value_of ls x + 2 ^ length ls * bit_value (literal_value x l)
value_of-push x ls l = value_of-append x ls (l ∷ []) ∙ ap (λ (n : ℕ). value_of ls x + 2 ^ length ls * n) (omega arith)

pub length-push : (ls : List Literal) (l : Literal) → length (ls ++ l ∷ []) ≡ length ls + 1
length-push ls l = length-append ls (l ∷ [])

pub Sum_none : (f : Form) (start : Literal) → start.variable < f.variables → IsSum f [] [] start [] start
Sum_none f start within = record {
  count = refl;
  within = tt;
  carry_within = within;
  is = λ x all. omega arith;
}

-- the place value of one bit more
place : (p s t c d a b u v n : ℕ) → s + p * c ≡ a + b + n → t + 2 * d ≡ u + v + c → (s + p * t) + (2 * p) * d ≡ (a + p * u) + (b + p * v) + n
place p s t c d a b u v n low bit =
    let scaled : p * (t + 2 * d) ≡ p * (u + v + c) = ap (λ (m : ℕ). p * m) bit in
    grind (arith, scaled)

pub Sum_more : (f g : Form) (a b : List Literal) (start : Literal) (sum : List Literal) (carry x y bit next : Literal) → IsSum f a b start sum carry → GrowsFreely f g → length a ≡ length b → IsBitSum g x y carry bit next → IsSum g (a ++ x ∷ []) (b ++ y ∷ []) start (sum ++ bit ∷ []) next
Sum_more f g a b start sum carry x y bit next so_far grows same one = record {
  count = length-push sum bit ∙ ap (λ (n : ℕ). n + 1) so_far.count ∙ sym (length-push a x);
  within = IsWithin-push g.variables sum bit (IsWithin-weaker f.variables g.variables sum grows.variables so_far.within) one.sum_within;
  carry_within = one.carry_within;
  is = λ v all.
      let low = so_far.is v (front grows v all) in
      let top = one.is v all in
      let lengths : length sum ≡ length a = so_far.count in
      let place_of_sum : 2 ^ length sum * bit_value (literal_value v bit) ≡ 2 ^ length a * bit_value (literal_value v bit) = ap (λ (n : ℕ). 2 ^ n * bit_value (literal_value v bit)) lengths in
      let place_of_b : 2 ^ length b * bit_value (literal_value v y) ≡ 2 ^ length a * bit_value (literal_value v y) = ap (λ (n : ℕ). 2 ^ n * bit_value (literal_value v y)) (sym same) in
      let double : 2 ^ length (a ++ x ∷ []) ≡ 2 * 2 ^ length a = ap (λ (n : ℕ). 2 ^ n) (length-push a x) ∙ power_more (length a) in
      let whole = place (2 ^ length a) (value_of sum v) (bit_value (literal_value v bit)) (bit_value (literal_value v carry)) (bit_value (literal_value v next)) (value_of a v) (value_of b v) (bit_value (literal_value v x)) (bit_value (literal_value v y)) (bit_value (literal_value v start)) low top in
      (λ k. (value_of-push v sum bit ∙ ap (λ (n : ℕ). value_of sum v + n) place_of_sum) k + double k * bit_value (literal_value v next))
      ∙ whole
      ∙ sym (λ k. value_of-push v a x k + (value_of-push v b y ∙ ap (λ (n : ℕ). value_of b v + n) place_of_b) k + bit_value (literal_value v start));
}

-- the low bits of a number with a carry
pub low_sum : (s p c n : ℕ) → s < p → s + p * c ≡ n → s ≡ n % p
low_sum s p c n below whole = sym (mod-mul-add c p s below) ∙ ap (λ (m : ℕ). m % p) (omega arith ∙ whole)

pub Sum_word : (f : Form) (a b : List Literal) (start : Literal) (sum : List Literal) (carry : Literal) (truth : Bool) → IsSum f a b start sum carry → IsTruth f start (λ x. truth) → IsNumber f (length a) sum (λ x. word_sum (length a) (value_of a x) (value_of b x + bit_value truth))
unfolding word_sum
Sum_word f a b start sum carry truth is_sum is_start = record {
  count = is_sum.count;
  within = is_sum.within;
  is = λ x all.
      let below : value_of sum x < 2 ^ length a = (let b : value_of sum x < 2 ^ length sum = value_of-below x sum in omega (arith, b, ap (λ (n : ℕ). 2 ^ n) is_sum.count)) in
      let started : bit_value (literal_value x start) ≡ bit_value truth = ap bit_value (is_start.is x all) in
      low_sum (value_of sum x) (2 ^ length a) (bit_value (literal_value x carry)) (value_of a x + (value_of b x + bit_value truth)) below
      (is_sum.is x all ∙ omega (arith, started));
}
