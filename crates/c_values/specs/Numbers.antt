-- Numbers with their types, and which of them are operands of one operation.
use Rattle.std.specs.Prelude.{ℕ, ◌==◌, Bool, ◌||◌}
use Rattle.c_types.specs.declared.integers.IntegerType.{IntegerType}
use Rattle.c_types.specs.Integers.{width}
use Rattle.core_tree.specs.declared.operators.ArithmeticOperator.{ArithmeticOperator}
use Rattle.core_tree.specs.Typed.{is_shift}

-- the number of this type with these bits
pub record TypedNumber : Type 0 where
  pub type : IntegerType
  pub bits : ℕ

abbrev pub typed : IntegerType → ℕ → TypedNumber
typed t x = record { type = t; bits = x }

abbrev pub same_width : IntegerType → IntegerType → Bool
same_width t u = width t == width u

-- operands of one width, but for shifts
abbrev pub are_operands_of : ArithmeticOperator → IntegerType → IntegerType → Bool
are_operands_of op t u = is_shift op || same_width t u
