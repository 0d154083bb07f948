use Rattle.std.proofs.Common.{◌≡◌, ◌++◌, drop, map}
use Rattle.core_tree.specs.Trees.{view_functions}
use Rattle.goto_unwind.specs.Linear.{function_linear}
use Rattle.goto_unwind.proofs.counting.tallies.Given as goal

abbrev pub invariant-loop-each : goal.invariant-loop-each
invariant-loop-each l = l.table.items ++ map (function_linear l.weights l.bounds) (view_functions (drop l.each-index l.functions)) ≡ map (function_linear l.weights l.bounds) (view_functions l.functions)
