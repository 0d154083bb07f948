use Rattle.std.proofs.Common.{◌≡◌, drop}
use Rattle.core_tree.specs.Trees.{view_functions}
use Rattle.c_profile.specs.Rules.{main_breach}
use Rattle.c_profile.proofs.admitted.main_breach.Given as goal

-- the functions that are left decide
abbrev pub invariant-loop-function : goal.invariant-loop-function
invariant-loop-function l = main_breach (view_functions (drop l.function-index l.functions)) ≡ main_breach (view_functions l.functions)
