use Rattle.std.proofs.Common.{◌≡◌, drop}
use Rattle.core_tree.specs.Trees.{items_of}
use Rattle.goto_lower.specs.Statements.{living}
use Rattle.goto_lower.proofs.objects.live_all.Given as goal

abbrev pub invariant-loop-item : goal.invariant-loop-item
invariant-loop-item l = living l.draft (items_of (drop l.item-index l.items)) ≡ living l.initial.draft (items_of l.items)
