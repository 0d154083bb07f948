use Rattle.std.proofs.Common.{◌≡◌, drop}
use Rattle.core_tree.specs.Trees.{items_of}
use Rattle.core_tree.specs.Standing.{are_standing}
use Rattle.core_check.specs.Outer.{standing_in}
use Rattle.core_check.proofs.standing.+standing.Given as goal

abbrev pub invariant-are_standing-loop-place : goal.invariant-are_standing-loop-place
invariant-are_standing-loop-place l = l.all ≡ are_standing (standing_in l.outer) (items_of (drop l.place l.items))
