use Rattle.std.proofs.Common.{◌≡◌, drop}
use Rattle.core_tree.specs.Trees.{items_of}
use Rattle.c_meaning.specs.Meaning.{has_default}
use Rattle.c_tasks.specs.Steps.{behind_default}
use Rattle.c_plan_flow.proofs.block_items.behind_default.Given as goal

-- the items that are left decide
abbrev pub invariant-loop-item : goal.invariant-loop-item
invariant-loop-item l =
    (l.place ≡ l.item-index)
    × (has_default (items_of l.items) ≡ has_default (items_of (drop l.item-index l.items)))
    × (behind_default (items_of l.items) ≡ behind_default (items_of (drop l.item-index l.items)))
