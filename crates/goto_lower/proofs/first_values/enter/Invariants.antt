use Rattle.std.proofs.Common.{◌≡◌, drop}
use Rattle.core_tree.specs.Trees.{items_of}
use Rattle.goto_lower.specs.Statements.{after_entry}
use Rattle.goto_lower.proofs.first_values.enter.Given as goal

abbrev pub invariant-loop-item : goal.invariant-loop-item
invariant-loop-item l = after_entry l.draft (items_of (drop l.item-index l.items)) ≡ after_entry l.initial.draft (items_of l.items)
