use Rattle.std.proofs.Common.{◌≡◌, drop}
use Rattle.core_tree.specs.Trees.{items_of}
use Rattle.c_meaning.specs.Meaning.{has_case}
use Rattle.c_tasks.specs.Steps.{behind_case}
use Rattle.c_plan_flow.proofs.block_items.behind_case.Given as goal

-- the items that are left decide
abbrev pub invariant-loop-item : goal.invariant-loop-item
invariant-loop-item l =
    (l.place ≡ l.item-index)
    × (has_case (items_of l.items) l.bits ≡ has_case (items_of (drop l.item-index l.items)) l.bits)
    × (behind_case l.bits (items_of l.items) ≡ behind_case l.bits (items_of (drop l.item-index l.items)))
