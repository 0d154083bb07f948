use Rattle.std.proofs.Common.{◌≡◌, drop}
use Rattle.std.specs.Prelude.{max}
use Rattle.core_tree.specs.Typed.{sizes_of_variables}
use Rattle.goto_unwind.specs.Counts.{largest}
use Rattle.goto_unwind.proofs.objects.largest.Given as goal

abbrev pub invariant-loop-variable : goal.invariant-loop-variable
invariant-loop-variable l = max l.most (largest (sizes_of_variables (drop l.variable-index l.variables))) ≡ largest (sizes_of_variables l.variables)
