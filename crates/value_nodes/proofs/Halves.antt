-- Pointers as nodes: the number of an object, and an offset.
use Rattle.std.proofs.Common.{◌≡◌, ◌+◌, ◌*◌, ℤ, w64, FitsSigned, true, ◌<◌, ◌/◌, ◌%◌, ◌^◌, ℕ, List, refl, ◌∙◌, ap, arith}
use Rattle.std.proofs.Math.Nat.{mod-eq_of_lt}
use Rattle.words.specs.Operators.{low_bits, logical_shift, word_sum, word_product, wrapped}
use Rattle.c_types.specs.declared.integers.IntegerType.{IntegerType}
use Rattle.c_types.specs.declared.integers.IntegerType.TheVariants as types
use Rattle.c_types.specs.Integers.{width as type_width}
use Rattle.core_tree.specs.declared.operators.Comparison.{Comparison}
use Rattle.core_tree.specs.declared.operators.Comparison.TheVariants as comparisons
use Rattle.core_tree.specs.Operations.{number, converted, truth_bits, compared}
use Rattle.actions.specs.Pointer.{object_of, offset_of}
use Rattle.c_values.specs.Pointers.{pointer_at, further, offset_by}
use Rattle.c_values.specs.Variables.{pointer_to}
use Rattle.word_dag.specs.declared.nodes.Id.{Id}
use Rattle.word_dag.specs.declared.nodes.Node.{Node}
use Rattle.word_dag.specs.declared.nodes.Node.TheVariants.{Constant, Binary, Cut, Join}
use Rattle.word_dag.specs.declared.nodes.BinaryOperator.TheVariants.{Add, Multiply}
use Rattle.word_dag.specs.Meaning.{width, value, joined}
use Rattle.word_dag.specs.Fitting.{is_ordered}
use Rattle.word_dag.specs.Growth.{Extends, Makes}
use Rattle.value_nodes.specs.Values.{IsWord, IsValue}
use Rattle.value_nodes.proofs.Made.{value_made, word_below}
use Rattle.value_nodes.proofs.Conversions.{unshifted}
use Rattle.value_nodes.proofs.Distances.{number_fits, step_fits, moved_low}

high_half : (p : ℕ) → p < 2 ^ 64 → low_bits 32 (logical_shift p 32) ≡ object_of p
unfolding low_bits logical_shift
high_half p below = mod-eq_of_lt (let small : p / 2 ^ 32 < 2 ^ 32 = omega (arith, below) in small)

low_half : (p : ℕ) → low_bits 32 (logical_shift p 0) ≡ offset_of p
unfolding low_bits
low_half p = ap (λ n. n % 2 ^ 32) (unshifted p)

pub made_object : (d e : List Node) (p i : Id) → is_ordered d ≡ true → IsWord d p 64 → Makes d e (Cut p 32 32) i → IsValue e i 32 (λ v. object_of (value v d p))
made_object d e p i ordered word m = value_made d e (Cut p 32 32) i 32 (λ v. object_of (value v d p)) m refl (λ v. high_half (value v d p) (word_below v d p 64 ordered word))

pub made_offset : (d e : List Node) (p i : Id) → IsWord d p 64 → Makes d e (Cut p 0 32) i → IsValue e i 32 (λ v. offset_of (value v d p))
made_offset d e p i word m = value_made d e (Cut p 0 32) i 32 (λ v. offset_of (value v d p)) m refl (λ v. low_half (value v d p))

pub made_pointer : (d e : List Node) (object offset i : Id) → IsWord d object 32 → IsWord d offset 32 → Makes d e (Join object offset) i → IsValue e i 64 (λ v. pointer_to (value v d object) (value v d offset))
made_pointer d e object offset i first second m =
    value_made d e (Join object offset) i 64 (λ v. pointer_to (value v d object) (value v d offset)) m (λ k. first.width_is k + second.width_is k) (λ v. ap (λ w. joined w (value v d object) (value v d offset)) second.width_is)

same_compared : (op : Comparison) (a b : ℕ) → compared op types.UnsignedInt a b ≡ compared op types.UnsignedLong a b
same_compared comparisons.Less a b = refl
same_compared comparisons.Greater a b = refl
same_compared comparisons.LessEqual a b = refl
same_compared comparisons.GreaterEqual a b = refl
same_compared comparisons.Equal a b = refl
same_compared comparisons.NotEqual a b = refl

pub related_offsets : (d d1 d2 e : List Node) (op : Comparison) (p q a b i : Id) → Extends d d1 → Extends d1 d2 → IsWord d q 64 → IsValue d1 a 32 (λ v. offset_of (value v d p)) → IsValue d2 b 32 (λ v. offset_of (value v d1 q))
    → IsValue e i 32 (λ v. truth_bits (compared op types.UnsignedInt (value v d2 a) (value v d2 b))) → IsValue e i 32 (λ v. truth_bits (compared op types.UnsignedLong (offset_of (value v d p)) (offset_of (value v d q))))
related_offsets d d1 d2 e op p q a b i x y word first second made = record {
  there = made.there;
  width_is = made.width_is;
  value_is = λ v.
      let one : value v d2 a ≡ offset_of (value v d p) = y.value_stays v a first.there ∙ first.value_is v in
      let two : value v d2 b ≡ offset_of (value v d q) = second.value_is v ∙ ap offset_of (x.value_stays v q word.there) in
      made.value_is v ∙ (λ k. truth_bits (compared op types.UnsignedInt (one k) (two k))) ∙ ap truth_bits (same_compared op (offset_of (value v d p)) (offset_of (value v d q)));
}

pub made_sum : (d e : List Node) (a b i : Id) → IsWord d a 32 → Makes d e (Binary Add a b) i → IsValue e i 32 (λ v. (value v d a + value v d b) % 2 ^ 32)
unfolding word_sum
made_sum d e a b i word m = value_made d e (Binary Add a b) i 32 (λ v. (value v d a + value v d b) % 2 ^ 32) m word.width_is (λ v. ap (λ (w : ℕ). (value v d a + value v d b) % 2 ^ w) word.width_is)

pub made_further : (d d1 d2 d3 e : List Node) (p distance object offset there i : Id) → Extends d d1 → Extends d1 d2 → Extends d2 d3 → IsWord d p 64 → IsWord d distance 32 → IsValue d1 object 32 (λ v. object_of (value v d p)) → IsValue d2 offset 32 (λ v. offset_of (value v d1 p))
    → IsValue d3 there 32 (λ v. (value v d2 offset + value v d2 distance) % 2 ^ 32) → IsValue e i 64 (λ v. pointer_to (value v d3 object) (value v d3 there)) → IsValue e i 64 (λ v. further (value v d p) (value v d distance))
made_further d d1 d2 d3 e p distance object offset there i x y z wp wd first second third made = record {
  there = made.there;
  width_is = made.width_is;
  value_is = λ v.
      let o : value v d3 object ≡ object_of (value v d p) = z.value_stays v object (omega (arith, first.there, y.longer)) ∙ y.value_stays v object first.there ∙ first.value_is v in
      let f : value v d2 offset ≡ offset_of (value v d p) = second.value_is v ∙ ap offset_of (x.value_stays v p wp.there) in
      let n : value v d2 distance ≡ value v d distance = y.value_stays v distance (omega (arith, wd.there, x.longer)) ∙ x.value_stays v distance wd.there in
      made.value_is v ∙ (λ k. pointer_to (o k) ((third.value_is v ∙ (λ j. (f j + n j) % 2 ^ 32)) k));
}

pub made_distance : (d d1 d2 e : List Node) (t : IntegerType) (index low factor i : Id) (n : ℕ) (step : ℤ) → Extends d1 d2 → IsValue d1 low 32 (λ v. converted t types.UnsignedInt (value v d index)) → Makes d1 d2 (Constant n 32) factor → n ≡ wrapped 32 step
    → Makes d2 e (Binary Multiply low factor) i → IsValue e i 32 (λ v. (wrapped 32 (number t (value v d index)) * wrapped 32 step) % 2 ^ 32)
unfolding word_product
made_distance d d1 d2 e t index low factor i n step y first made is m =
    let wide : width d2 low ≡ 32 = y.width_stays low first.there ∙ first.width_is in
    value_made d2 e (Binary Multiply low factor) i 32 (λ v. (wrapped 32 (number t (value v d index)) * wrapped 32 step) % 2 ^ 32) m wide
    (λ v. let a : value v d2 low ≡ wrapped 32 (number t (value v d index)) = y.value_stays v low first.there ∙ first.value_is v in let b : value v d2 factor ≡ wrapped 32 step = made.value_is v ∙ is in λ k. (a k * b k) % 2 ^ wide k)

pub made_moved : (d d1 e : List Node) (t : IntegerType) (p index distance i : Id) (step given : ℤ) → given ≡ step → is_ordered d ≡ true → FitsSigned w64 step → Extends d d1 → IsWord d p 64 → IsWord d index (type_width t) → IsValue d1 distance 32 (λ v. (wrapped 32 (number t (value v d index)) * wrapped 32 given) % 2 ^ 32)
    → IsValue e i 64 (λ v. further (value v d1 p) (value v d1 distance)) → IsValue e i 64 (λ v. pointer_at (value v d p) (offset_by (offset_of (value v d p)) (number t (value v d index)) step))
made_moved d d1 e t p index distance i step given same ordered range x wp wi made moved = record {
  there = moved.there;
  width_is = moved.width_is;
  value_is = λ v.
      moved.value_is v ∙ (λ k. further (x.value_stays v p wp.there k) ((made.value_is v ∙ (λ j. (wrapped 32 (number t (value v d index)) * wrapped 32 (same j)) % 2 ^ 32)) k))
      ∙ moved_low (value v d p) (number t (value v d index)) step (number_fits t (value v d index) (word_below v d index (type_width t) ordered wi)) (step_fits step range);
}
