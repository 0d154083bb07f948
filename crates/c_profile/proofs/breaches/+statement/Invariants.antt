use Rattle.std.proofs.Common.{◌≡◌, drop, length}
use Rattle.core_tree.specs.Trees.{items_of, view_functions}
use Rattle.c_profile.specs.Rules.{items_breach, labels_from}
use Rattle.c_profile.proofs.breaches.+statement.Given as goal

abbrev pub invariant-items_breach-loop-place : goal.invariant-items_breach-loop-place
invariant-items_breach-loop-place l =
    (l.first ≡ items_breach (view_functions l.functions) l.fn.labels.items (items_of (drop l.place l.items)))
    × (l.labels.items ≡ labels_from (items_of (drop l.place l.items)) l.fn.labels.items)
    × (l.outer ≡ length l.fn.labels.items)
