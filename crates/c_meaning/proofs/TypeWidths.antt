-- Types that are one have one width.
use Rattle.std.proofs.Common.{◌≡◌, ℕ, Bool, true, false, ◌&&◌, ◌||◌, ◌==◌, List, [], ◌∷◌, slice_index, refl, sym, ap, ◌∙◌, arith}
use Rattle.std.proofs.lemmas.Bool.{false≢true}
use Rattle.std.proofs.lemmas.Bool.Decides.{nat_tests}
use Rattle.c_types.specs.declared.integers.IntegerType.{IntegerType}
use Rattle.c_types.specs.declared.integers.IntegerType.TheVariants as types
use Rattle.c_types.specs.declared.types.ValueType.{ValueType}
use Rattle.c_types.specs.declared.types.ValueType.TheVariants.{Void, Integer}
use Rattle.c_types.specs.Integers.{width, number_of, same_integer, same_type}
use Rattle.core_tree.specs.declared.operators.ArithmeticOperator.{ArithmeticOperator}
use Rattle.core_tree.specs.Typed.{is_shift, is_promoted, are_operands}
use Rattle.c_meaning.specs.Meaning.{integer_of}
use Rattle.c_values.specs.Numbers.{same_width, are_operands_of}
use Rattle.c_meaning.proofs.Holding.{right_of}

widths : List ℕ
widths = 8 ∷ 8 ∷ 8 ∷ 8 ∷ 16 ∷ 16 ∷ 32 ∷ 32 ∷ 64 ∷ 64 ∷ 64 ∷ 64 ∷ []

width_at : (t : IntegerType) → width t ≡ slice_index widths (number_of t)
unfolding widths
width_at types.Bool = refl
width_at _ = refl

from_same : (a b : ℕ) → (a == b) ≡ true → a ≡ b
from_same a b h = grind (arith, nat_tests)

to_same : (a b : ℕ) → a ≡ b → (a == b) ≡ true
to_same a b h = grind (arith, nat_tests)

pub width_itself : (t : IntegerType) → same_width t t ≡ true
width_itself t = to_same (width t) (width t) refl

integer_widths : (t u : IntegerType) → same_integer t u ≡ true → width t ≡ width u
integer_widths t u h = width_at t ∙ ap (λ n. slice_index widths n) (from_same (number_of t) (number_of u) h) ∙ sym (width_at u)

pub type_widths : (t u : ValueType) → same_type t u ≡ true → same_width (integer_of t) (integer_of u) ≡ true
type_widths Void Void h = refl
type_widths Void (Integer u) h = absurd (false≢true h)
type_widths (Integer t) Void h = absurd (false≢true h)
type_widths (Integer t) (Integer u) h = to_same (width t) (width u) (integer_widths t u h)

pub type_widths_back : (t u : ValueType) → same_type t u ≡ true → same_width (integer_of u) (integer_of t) ≡ true
type_widths_back Void Void h = refl
type_widths_back Void (Integer u) h = absurd (false≢true h)
type_widths_back (Integer t) Void h = absurd (false≢true h)
type_widths_back (Integer t) (Integer u) h = to_same (width u) (width t) (sym (integer_widths t u h))

either_way : (s a b : Bool) → (a ≡ true → b ≡ true) → (s || a) ≡ true → (s || b) ≡ true
either_way true a b f h = refl
either_way false a b f h = f h

pub operand_widths : (op : ArithmeticOperator) (t u : ValueType) → are_operands op t u ≡ true → are_operands_of op (integer_of t) (integer_of u) ≡ true
operand_widths op t u h =
    either_way (is_shift op) (same_type t u) (same_width (integer_of t) (integer_of u)) (type_widths t u)
    (right_of (is_promoted t && is_promoted u) (is_shift op || same_type t u) h)
