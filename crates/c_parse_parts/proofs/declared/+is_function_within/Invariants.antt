use Rattle.c_tree.specs.Declarations.{view_full, full_depth}
use Rattle.c_parse_parts.proofs.declared.+is_function_within.Given as goal

abbrev pub decreases-is_function_within : goal.decreases-is_function_within
decreases-is_function_within l = full_depth (view_full l.declarator.now)
