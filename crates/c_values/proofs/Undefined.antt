-- What operations give where they are undefined.
use Rattle.std.proofs.Common.{◌≡◌, ℕ, ◌<◌, ◌≤◌, ◌^◌, Bool, true, false, ap, ◌∙◌, arith}
use Rattle.std.specs.Prelude.{if◌then◌else◌}
use Rattle.c_types.specs.declared.integers.IntegerType.{IntegerType}
use Rattle.c_types.specs.declared.integers.IntegerType.TheVariants as types
use Rattle.c_types.specs.Integers.{width, is_signed}
use Rattle.core_tree.specs.declared.operators.ArithmeticOperator.TheVariants as arithmetics
use Rattle.core_tree.specs.Operations.{arithmetic_value}
use Rattle.words.proofs.Division.{unsigned_quotient_zero, unsigned_remainder_zero, signed_quotient_zero, signed_remainder_zero}
use Rattle.words.proofs.Shifts.{left_shift_out, logical_shift_out, arithmetic_shift_out}

either_zero : (b : Bool) (x y : ℕ) → x ≡ 0 → y ≡ 0 → (if b then x else y) ≡ 0
either_zero true x y first second = first
either_zero false x y first second = second

positive : (t : IntegerType) → 1 ≤ width t
positive types.Bool = omega arith
positive types.Char = omega arith
positive types.SignedChar = omega arith
positive types.UnsignedChar = omega arith
positive types.Short = omega arith
positive types.UnsignedShort = omega arith
positive types.Int = omega arith
positive types.UnsignedInt = omega arith
positive types.Long = omega arith
positive types.UnsignedLong = omega arith
positive types.LongLong = omega arith
positive types.UnsignedLongLong = omega arith

pub quotient_none : (t : IntegerType) (a b : ℕ) → b ≡ 0 → arithmetic_value arithmetics.Divide t a b ≡ 0
quotient_none t a b zero = ap (arithmetic_value arithmetics.Divide t a) zero ∙ either_zero (is_signed t) _ _ (signed_quotient_zero (width t) a (positive t)) (unsigned_quotient_zero a)

pub remainder_none : (t : IntegerType) (a b : ℕ) → b ≡ 0 → arithmetic_value arithmetics.Remainder t a b ≡ 0
remainder_none t a b zero = ap (arithmetic_value arithmetics.Remainder t a) zero ∙ either_zero (is_signed t) _ _ (signed_remainder_zero (width t) a) (unsigned_remainder_zero a)

pub left_out : (t : IntegerType) (a k : ℕ) → width t ≤ k → arithmetic_value arithmetics.ShiftLeft t a k ≡ 0
left_out t a k out = left_shift_out (width t) a k out

pub right_out : (t : IntegerType) (a k : ℕ) → a < 2 ^ width t → width t ≤ k → arithmetic_value arithmetics.ShiftRight t a k ≡ 0
right_out t a k below out = either_zero (is_signed t) _ _ (arithmetic_shift_out (width t) a k out) (logical_shift_out (width t) a k below out)
