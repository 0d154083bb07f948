use Rattle.std.proofs.Common.{◌≡◌, drop}
use Rattle.core_tree.specs.Typed.{are_small}
use Rattle.core_check.proofs.files.are_small.Given as goal

abbrev pub invariant-loop-place : goal.invariant-loop-place
invariant-loop-place l = l.all ≡ are_small (drop l.place l.variables)
