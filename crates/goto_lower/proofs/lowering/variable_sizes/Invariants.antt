use Rattle.std.proofs.Common.{◌≡◌, ◌++◌, drop}
use Rattle.core_tree.specs.Typed.{sizes_of_variables}
use Rattle.goto_lower.proofs.lowering.variable_sizes.Given as goal

abbrev pub invariant-loop-variable : goal.invariant-loop-variable
invariant-loop-variable l = l.sizes.items ++ sizes_of_variables (drop l.variable-index l.variables) ≡ sizes_of_variables l.variables
