-- The operators whose result has to be in the range of a signed type.
use Rattle.std.specs.Prelude.{Bool, true, false}
use Rattle.core_tree.specs.declared.operators.ArithmeticOperator.{ArithmeticOperator}
use Rattle.core_tree.specs.declared.operators.ArithmeticOperator.TheVariants as arithmetics

abbrev pub is_ranged : ArithmeticOperator → Bool
is_ranged arithmetics.Add = true
is_ranged arithmetics.Subtract = true
is_ranged arithmetics.Multiply = true
is_ranged _ = false
