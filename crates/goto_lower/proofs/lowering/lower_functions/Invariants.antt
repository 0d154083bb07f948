use Rattle.std.proofs.Common.{◌≡◌, ◌++◌, drop}
use Rattle.core_tree.specs.Trees.{view_functions}
use Rattle.goto_prog.specs.Nodes.{view_procedures}
use Rattle.lowered_code.specs.Lowered.{function_codes}
use Rattle.goto_lower.proofs.lowering.lower_functions.Given as goal

abbrev pub invariant-loop-number : goal.invariant-loop-number
invariant-loop-number l = view_procedures l.procedures.items ++ function_codes l.literals l.number (view_functions (drop l.number l.functions)) ≡ function_codes l.literals 0 (view_functions l.functions)
