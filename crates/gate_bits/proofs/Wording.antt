-- Words bit by bit, complements and differences.
use Rattle.std.proofs.Common.{◌≡◌, ℕ, ◌+◌, ◌-◌, ◌*◌, ◌^◌, ◌<◌, Bool, true, false, List, [], ◌∷◌, ◌++◌, map, length, refl, sym, ap, ◌∙◌, subst, arith}
use Rattle.std.proofs.lemmas.List.{length-map}
use Rattle.std.proofs.lemmas.Nat.{and_block, or_block, xor_block}
use Rattle.sat_form.specs.Satisfaction.{Literal, Form, literal_value, inverse_of, IsWithin}
use Rattle.sat_form.specs.Numbers.{bit_value, value_of}
use Rattle.sat_form.proofs.Numbering.{value_of-below}
use Rattle.sat_form.proofs.Within.{IsWithin-weaker, IsWithin-push}
use Rattle.words.specs.Operators.{word_complement, word_difference}
use Rattle.gate_bits.specs.Growth.{GrowsFreely}
use Rattle.gate_bits.specs.Truth.{IsTruth, IsNumber}
use Rattle.gate_bits.specs.Sums.{IsSum}
use Rattle.gate_bits.specs.Bitwise.{bit_by, word_by}
use Rattle.gate_bits.specs.declared.bits.Bitwise.{Bitwise}
use Rattle.gate_bits.specs.declared.bits.Bitwise.TheVariants.{And, Or, Xor}
use Rattle.gate_bits.proofs.Growing.{front}
use Rattle.gate_bits.proofs.Adding.{value_of-push, length-push, low_sum}
use Rattle.gate_bits.proofs.Inverting.{value_of-inverses, IsWithin-inverses}

-- ---- bit by bit

one_bit : (kind : Bitwise) (x y : Bool) → word_by kind (bit_value x) (bit_value y) ≡ bit_value (bit_by kind x y)
one_bit And true true = refl
one_bit And true false = refl
one_bit And false true = refl
one_bit And false false = refl
one_bit Or true true = refl
one_bit Or true false = refl
one_bit Or false true = refl
one_bit Or false false = refl
one_bit Xor true true = refl
one_bit Xor true false = refl
one_bit Xor false true = refl
one_bit Xor false false = refl

blocks : (kind : Bitwise) (k m n u v : ℕ) → m < 2 ^ k → n < 2 ^ k → word_by kind (u * 2 ^ k + m) (v * 2 ^ k + n) ≡ word_by kind u v * 2 ^ k + word_by kind m n
blocks And k m n u v a b = and_block k u v m n a b
blocks Or k m n u v a b = or_block k u v m n a b
blocks Xor k m n u v a b = xor_block k u v m n a b

turned : (m p u : ℕ) → m + p * u ≡ u * p + m
turned m p u = omega arith

-- one bit more at the top
word_more : (kind : Bitwise) (k m n : ℕ) (x y : Bool) → m < 2 ^ k → n < 2 ^ k → word_by kind (m + 2 ^ k * bit_value x) (n + 2 ^ k * bit_value y) ≡ word_by kind m n + 2 ^ k * bit_value (bit_by kind x y)
word_more kind k m n x y a b =
    (λ j. word_by kind (turned m (2 ^ k) (bit_value x) j) (turned n (2 ^ k) (bit_value y) j))
    ∙ blocks kind k m n (bit_value x) (bit_value y) a b
    ∙ ap (λ (u : ℕ). u * 2 ^ k + word_by kind m n) (one_bit kind x y)
    ∙ sym (turned (word_by kind m n) (2 ^ k) (bit_value (bit_by kind x y)))

below_at : (v : ℕ → Bool) (i : ℕ) (p : List Literal) → length p ≡ i → value_of p v < 2 ^ i
below_at v i p count = subst (λ (n : ℕ). value_of p v < 2 ^ n) count (value_of-below v p)

push_at : (v : ℕ → Bool) (i : ℕ) (p : List Literal) (x : Literal) → length p ≡ i → value_of (p ++ x ∷ []) v ≡ value_of p v + 2 ^ i * bit_value (literal_value v x)
push_at v i p x count = value_of-push v p x ∙ ap (λ (n : ℕ). value_of p v + 2 ^ n * bit_value (literal_value v x)) count

pub Word_more : (f g : Form) (kind : Bitwise) (i : ℕ) (p q bits : List Literal) (x y out : Literal) → length p ≡ i → length q ≡ i → IsNumber f i bits (λ v. word_by kind (value_of p v) (value_of q v)) → GrowsFreely f g → IsTruth g out (λ v. bit_by kind (literal_value v x) (literal_value v y)) → IsNumber g (i + 1) (bits ++ out ∷ []) (λ v. word_by kind (value_of (p ++ x ∷ []) v) (value_of (q ++ y ∷ []) v))
Word_more f g kind i p q bits x y out first second so_far grows one = record {
  count = length-push bits out ∙ ap (λ (n : ℕ). n + 1) so_far.count;
  within = IsWithin-push g.variables bits out (IsWithin-weaker f.variables g.variables bits grows.variables so_far.within) one.within;
  is = λ v all.
      push_at v i bits out so_far.count
      ∙ (λ k. so_far.is v (front grows v all) k + 2 ^ i * bit_value (one.is v all k))
      ∙ sym (word_more kind i (value_of p v) (value_of q v) (literal_value v x) (literal_value v y) (below_at v i p first) (below_at v i q second))
      ∙ sym (λ k. word_by kind (push_at v i p x first k) (push_at v i q y second k));
}

pub Word_none : (f : Form) (kind : Bitwise) → IsNumber f 0 [] (λ v. word_by kind 0 0)
Word_none f kind = record {
  count = refl;
  within = tt;
  is = λ v all. none kind;
}
  where
    none : (kind : Bitwise) → 0 ≡ word_by kind 0 0
    none And = refl
    none Or = refl
    none Xor = refl

-- ---- complements

pub Complement_is : (f : Form) (a bits : List Literal) → bits ≡ map inverse_of a → IsWithin f.variables a → IsNumber f (length a) bits (λ x. word_complement (length a) (value_of a x))
unfolding word_complement
Complement_is f a bits is within = record {
  count = ap (λ (m : List Literal). length m) is ∙ length-map a inverse_of;
  within = subst (λ (m : List Literal). IsWithin f.variables m) (sym is) (IsWithin-inverses f.variables a within);
  is = λ x all.
      let same : value_of bits x ≡ value_of (map inverse_of a) x = ap (λ (m : List Literal). value_of m x) is in
      omega (arith, same, value_of-inverses x a);
}

-- ---- differences

pub Difference_is : (f : Form) (a b inverse bits : List Literal) (one carry : Literal) → length a ≡ length b → inverse ≡ map inverse_of b → IsTruth f one (λ x. true) → IsSum f a inverse one bits carry → IsNumber f (length a) bits (λ x. word_difference (length a) (value_of a x) (value_of b x))
unfolding word_difference
Difference_is f a b inverse bits one carry same is on sum = record {
  count = sum.count;
  within = sum.within;
  is = λ x all.
      let below : value_of bits x < 2 ^ length a = below_at x (length a) bits sum.count in
      let started : bit_value (literal_value x one) ≡ 1 = ap bit_value (on.is x all) in
      let turned_b : value_of inverse x ≡ value_of (map inverse_of b) x = ap (λ (m : List Literal). value_of m x) is in
      let power : 2 ^ length b ≡ 2 ^ length a = ap (λ (n : ℕ). 2 ^ n) (sym same) in
      let whole : value_of inverse x + value_of b x + 1 ≡ 2 ^ length a = omega (arith, turned_b, value_of-inverses x b, power) in
      low_sum (value_of bits x) (2 ^ length a) (bit_value (literal_value x carry)) (value_of a x + 2 ^ length a - value_of b x) below
      (sum.is x all ∙ omega (arith, started, whole));
}
