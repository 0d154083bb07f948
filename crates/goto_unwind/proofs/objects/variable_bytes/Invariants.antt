use Rattle.std.proofs.Common.{◌≡◌, drop}
use Rattle.std.specs.Prelude.{max}
use Rattle.core_tree.specs.Trees.{view_functions}
use Rattle.goto_unwind.specs.Counts.{variable_bytes}
use Rattle.goto_unwind.proofs.objects.variable_bytes.Given as goal

abbrev pub invariant-loop-function : goal.invariant-loop-function
invariant-loop-function l = max l.most (variable_bytes (view_functions (drop l.function-index l.functions))) ≡ variable_bytes (view_functions l.functions)
