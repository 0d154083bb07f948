use Rattle.std.proofs.Common.{◌≡◌, drop}
use Rattle.core_tree.specs.Trees.{items_of}
use Rattle.core_tree.specs.Typed.{are_typed_items}
use Rattle.core_check.specs.Around.{sizes_around}
use Rattle.core_check.proofs.statements.+statement.Given as goal

abbrev pub invariant-are_typed_items-loop-place : goal.invariant-are_typed_items-loop-place
invariant-are_typed_items-loop-place l = l.all ≡ are_typed_items (sizes_around l.around) (items_of (drop l.place l.items))
