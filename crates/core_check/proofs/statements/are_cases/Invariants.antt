use Rattle.std.proofs.Common.{◌≡◌, drop}
use Rattle.core_tree.specs.Trees.{items_of}
use Rattle.core_tree.specs.Typed.{are_cases}
use Rattle.core_check.proofs.statements.are_cases.Given as goal

abbrev pub invariant-loop-place : goal.invariant-loop-place
invariant-loop-place l = l.all ≡ are_cases l.type_ (items_of (drop l.place l.items))
