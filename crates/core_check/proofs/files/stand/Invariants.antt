use Rattle.std.proofs.Common.{◌≡◌, drop}
use Rattle.core_tree.specs.Trees.{view_functions}
use Rattle.core_tree.specs.Standing.{stand}
use Rattle.core_check.proofs.files.stand.Given as goal

abbrev pub invariant-loop-place : goal.invariant-loop-place
invariant-loop-place l = l.all ≡ stand (view_functions (drop l.place l.functions))
