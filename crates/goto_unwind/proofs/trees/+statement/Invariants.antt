use Rattle.std.proofs.Common.{◌≡◌, drop}
use Rattle.core_tree.specs.Trees.{items_of}
use Rattle.goto_prog.specs.Structured.{tests_in}
use Rattle.goto_unwind.specs.Linear.{items_linear}
use Rattle.goto_unwind.proofs.trees.+statement.Given as goal

abbrev pub invariant-items_of_block-loop-item : goal.invariant-items_of_block-loop-item
invariant-items_of_block-loop-item l =
    items_linear (tests_in l.bounds.set l.bounds.unwind l.name) l.variables l.times (items_of (drop l.item-index l.items)) l.linear_count ≡ items_linear (tests_in l.bounds.set l.bounds.unwind l.name) l.variables l.times (items_of l.items) l.initial.linear_count
