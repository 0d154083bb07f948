-- The operators whose result may be out of range.
use Rattle.std.proofs.Common.{◌≡◌, true, refl}
use Rattle.core_tree.specs.declared.operators.ArithmeticOperator.{ArithmeticOperator}
use Rattle.core_tree.specs.declared.operators.ArithmeticOperator.TheVariants as arithmetics
use Rattle.goto_prog.specs.Fitting as code
use Rattle.value_nodes.specs.Ranged as nodes

pub ranged_same : (op : ArithmeticOperator) → code.is_ranged op ≡ true → nodes.is_ranged op ≡ true
ranged_same arithmetics.Multiply h = refl
ranged_same arithmetics.Add h = refl
ranged_same arithmetics.Subtract h = refl
ranged_same _ h = h
