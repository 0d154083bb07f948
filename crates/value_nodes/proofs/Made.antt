-- What a made node is.
use Rattle.std.proofs.Common.{◌≡◌, ◌<◌, ◌^◌, ℕ, zero, suc, Bool, true, false, not, ◌&&◌, ◌||◌, bit_and, bit_or, List, refl, sym, ◌∙◌, ap, subst, arith}
use Rattle.std.specs.Prelude.{◌==◌, pos, int_lt, if◌then◌else◌}
use Rattle.words.specs.BitVector.{signed_value}
use Rattle.words.specs.Operators.{word_complement, signed_lt}
use Rattle.c_types.specs.declared.integers.IntegerType.{IntegerType}
use Rattle.c_types.specs.Integers.{width as type_width, is_signed}
use Rattle.core_tree.specs.Operations.{number, truth_bits, is_true}
use Rattle.word_dag.specs.declared.nodes.Id.{Id}
use Rattle.word_dag.specs.declared.nodes.Node.{Node}
use Rattle.word_dag.specs.declared.nodes.Node.TheVariants.{Not, Binary, Compare, ZeroExtend}
use Rattle.word_dag.specs.declared.nodes.BinaryOperator.TheVariants.{And, Or}
use Rattle.word_dag.specs.Meaning.{value, widths, values, node_width, node_value, bit_value, holds}
use Rattle.word_dag.specs.declared.nodes.Comparison.{Comparison}
use Rattle.word_dag.specs.declared.nodes.Comparison.TheVariants.{SignedLess, UnsignedLess}
use Rattle.word_dag.specs.Meaning.{comparison_value}
use Rattle.word_dag.proofs.Truth.{holds_bit, bit_holds}
use Rattle.word_dag.specs.Fitting.{is_ordered}
use Rattle.word_dag.proofs.Bounds.{value_below}
use Rattle.word_dag.specs.Growth.{Extends, Makes}
use Rattle.value_nodes.specs.Values.{IsWord, IsValue, IsTest}

pub value_made : (d e : List Node) (n : Node) (i : Id) (w : ℕ) (f : (ℕ → ℕ) → ℕ)
    → Makes d e n i → node_width (widths d) n ≡ w → ((v : ℕ → ℕ) → node_value v (widths d) (values v d) n ≡ f v) → IsValue e i w f
value_made d e n i w f m wide same = record { there = m.there; width_is = m.width_is ∙ wide; value_is = λ v. m.value_is v ∙ same v }

pub test_made : (d e : List Node) (n : Node) (i : Id) (f : (ℕ → ℕ) → Bool)
    → Makes d e n i → node_width (widths d) n ≡ 1 → ((v : ℕ → ℕ) → node_value v (widths d) (values v d) n ≡ bit_value (f v)) → IsTest e i f
test_made d e n i f m wide same = record { there = m.there; width_is = m.width_is ∙ wide; value_is = λ v. m.value_is v ∙ same v }

-- a word stays one
pub word_stays : (d e : List Node) (i : Id) (w : ℕ) → Extends d e → IsWord d i w → IsWord e i w
word_stays d e i w x word = record { there = omega (arith, x.longer, word.there); width_is = x.width_stays i word.there ∙ word.width_is }

-- ---- truth values

bit_not : (a : ℕ) → a < 2 ^ 1 → word_complement 1 a ≡ bit_value (not (holds a))
unfolding word_complement
bit_not zero h = refl
bit_not (suc zero) h = refl
bit_not (suc (suc a)) h = absurd (omega arith)

bit_and_is : (a b : ℕ) → a < 2 ^ 1 → b < 2 ^ 1 → bit_and a b ≡ bit_value (holds a && holds b)
bit_and_is zero zero h l = refl
bit_and_is zero (suc zero) h l = refl
bit_and_is (suc zero) zero h l = refl
bit_and_is (suc zero) (suc zero) h l = refl
bit_and_is (suc (suc a)) b h l = absurd (omega arith)
bit_and_is a (suc (suc b)) h l = absurd (omega arith)

bit_or_is : (a b : ℕ) → a < 2 ^ 1 → b < 2 ^ 1 → bit_or a b ≡ bit_value (holds a || holds b)
bit_or_is zero zero h l = refl
bit_or_is zero (suc zero) h l = refl
bit_or_is (suc zero) zero h l = refl
bit_or_is (suc zero) (suc zero) h l = refl
bit_or_is (suc (suc a)) b h l = absurd (omega arith)
bit_or_is a (suc (suc b)) h l = absurd (omega arith)

-- the value of a word is below 2 to the power of its width
pub word_below : (v : ℕ → ℕ) (d : List Node) (i : Id) (w : ℕ) → is_ordered d ≡ true → IsWord d i w → value v d i < 2 ^ w
word_below v d i w ordered word = subst (λ (n : ℕ). value v d i < 2 ^ n) word.width_is (value_below v d i ordered word.there)

pub made_not : (d e : List Node) (a i : Id) → is_ordered d ≡ true → IsWord d a 1 → Makes d e (Not a) i → IsTest e i (λ v. not (holds (value v d a)))
made_not d e a i ordered word m =
    test_made d e (Not a) i (λ v. not (holds (value v d a))) m word.width_is (λ v.
    ap (λ (w : ℕ). word_complement w (value v d a)) word.width_is ∙ bit_not (value v d a) (word_below v d a 1 ordered word))

pub made_and : (d e : List Node) (a b i : Id) → is_ordered d ≡ true → IsWord d a 1 → IsWord d b 1 → Makes d e (Binary And a b) i → IsTest e i (λ v. holds (value v d a) && holds (value v d b))
made_and d e a b i ordered word other m =
    test_made d e (Binary And a b) i (λ v. holds (value v d a) && holds (value v d b)) m word.width_is (λ v.
    bit_and_is (value v d a) (value v d b) (word_below v d a 1 ordered word) (word_below v d b 1 ordered other))

pub made_or : (d e : List Node) (a b i : Id) → is_ordered d ≡ true → IsWord d a 1 → IsWord d b 1 → Makes d e (Binary Or a b) i → IsTest e i (λ v. holds (value v d a) || holds (value v d b))
made_or d e a b i ordered word other m =
    test_made d e (Binary Or a b) i (λ v. holds (value v d a) || holds (value v d b)) m word.width_is (λ v.
    bit_or_is (value v d a) (value v d b) (word_below v d a 1 ordered word) (word_below v d b 1 ordered other))

-- ---- truth values as numbers

bit_number : (a : ℕ) → a < 2 ^ 1 → a ≡ truth_bits (holds a)
bit_number a h = sym (bit_holds a h)

pub made_number : (d e : List Node) (a i : Id) (w : ℕ) → is_ordered d ≡ true → IsWord d a 1 → Makes d e (ZeroExtend a w) i → IsValue e i w (λ v. truth_bits (holds (value v d a)))
made_number d e a i w ordered word m =
    value_made d e (ZeroExtend a w) i w (λ v. truth_bits (holds (value v d a))) m refl (λ v. bit_number (value v d a) (word_below v d a 1 ordered word))

-- a number made of a test
pub number_of_test : (d e : List Node) (a i : Id) (w : ℕ) (f : (ℕ → ℕ) → Bool) → IsTest d a f → IsValue e i w (λ v. truth_bits (holds (value v d a))) → IsValue e i w (λ v. truth_bits (f v))
number_of_test d e a i w f test made =
    record { there = made.there; width_is = made.width_is; value_is = λ v. made.value_is v ∙ ap (λ x. truth_bits (holds x)) (test.value_is v) ∙ ap truth_bits (holds_bit (f v)) }

-- the inverse of a test
pub inverse_of_test : (d e : List Node) (a i : Id) (f : (ℕ → ℕ) → Bool) → IsTest d a f → IsTest e i (λ v. not (holds (value v d a))) → IsTest e i (λ v. not (f v))
inverse_of_test d e a i f test made =
    record { there = made.there; width_is = made.width_is; value_is = λ v. made.value_is v ∙ ap (λ x. bit_value (not (holds x))) (test.value_is v) ∙ ap (λ b. bit_value (not b)) (holds_bit (f v)) }

pub zero_inverse : (c d e : List Node) (a t i : Id) → IsTest d t (λ v. value v c a == 0) → IsTest e i (λ v. not (holds (value v d t))) → IsTest e i (λ v. is_true (value v c a))
zero_inverse c d e a t i test made = inverse_of_test d e t i (λ v. value v c a == 0) test made

-- ---- orders

less_by : (s : Bool) (w a b : ℕ) → comparison_value (if s then SignedLess else UnsignedLess) w a b ≡ int_lt (if s then signed_value w a else pos a) (if s then signed_value w b else pos b)
unfolding signed_lt
less_by true w a b = refl
less_by false w a b = refl

pub made_less : (d e : List Node) (a b i : Id) (t : IntegerType) (c : Comparison) → c ≡ (if is_signed t then SignedLess else UnsignedLess) → IsWord d a (type_width t) → Makes d e (Compare c a b) i
    → IsTest e i (λ v. int_lt (number t (value v d a)) (number t (value v d b)))
made_less d e a b i t c which word m =
    test_made d e (Compare c a b) i (λ v. int_lt (number t (value v d a)) (number t (value v d b))) m refl (λ v.
    ap (λ (w : ℕ). bit_value (comparison_value c w (value v d a) (value v d b))) word.width_is
    ∙ ap (λ (k : Comparison). bit_value (comparison_value k (type_width t) (value v d a) (value v d b))) which
    ∙ ap bit_value (less_by (is_signed t) (type_width t) (value v d a) (value v d b)))
