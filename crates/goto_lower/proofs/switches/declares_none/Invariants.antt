use Rattle.std.proofs.Common.{◌≡◌, drop}
use Rattle.core_tree.specs.Trees.{items_of}
use Rattle.lowered_code.specs.Lowering.{declares_none}
use Rattle.goto_lower.proofs.switches.declares_none.Given as goal

abbrev pub invariant-loop-item : goal.invariant-loop-item
invariant-loop-item l = declares_none (items_of (drop l.item-index l.items)) ≡ declares_none (items_of l.items)
