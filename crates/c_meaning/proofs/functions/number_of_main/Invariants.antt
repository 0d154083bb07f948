use Rattle.std.proofs.Common.{◌≡◌, ◌+◌, drop}
use Rattle.core_tree.specs.Trees.{view_functions}
use Rattle.c_meaning.specs.Source.{main_number}
use Rattle.c_meaning.proofs.functions.number_of_main.Given as goal

abbrev pub invariant-loop-function : goal.invariant-loop-function
invariant-loop-function l = (l.number ≡ l.function-index) × (l.number + main_number (view_functions (drop l.function-index l.functions)) ≡ main_number (view_functions l.functions))
