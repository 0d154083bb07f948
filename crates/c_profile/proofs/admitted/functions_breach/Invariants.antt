use Rattle.std.proofs.Common.{◌≡◌, drop}
use Rattle.core_tree.specs.Trees.{view_functions}
use Rattle.c_profile.specs.Rules.{functions_breach}
use Rattle.c_profile.proofs.admitted.functions_breach.Given as goal

abbrev pub invariant-loop-place : goal.invariant-loop-place
invariant-loop-place l = l.first ≡ functions_breach (view_functions l.functions) (view_functions (drop l.place l.functions))
