use Rattle.std.proofs.Common.{◌≡◌, drop}
use Rattle.core_tree.specs.Trees.{view_functions}
use Rattle.core_tree.specs.Typed.{have_small}
use Rattle.core_check.proofs.files.have_small.Given as goal

abbrev pub invariant-loop-place : goal.invariant-loop-place
invariant-loop-place l = l.all ≡ have_small (view_functions (drop l.place l.functions))
