use Rattle.std.proofs.Common.{◌≡◌, ◌++◌, drop}
use Rattle.c_tree.specs.Statements.{items_of}
use Rattle.c_elab_flow.specs.Jumps.{labels_of}
use Rattle.c_elab_flow.proofs.jumps.+labels.Given as goal

abbrev pub invariant-add_labels_of-loop-item : goal.invariant-add_labels_of-loop-item
invariant-add_labels_of-loop-item l = l.labels ++ labels_of (items_of (drop l.item-index l.items)) ≡ l.initial.labels ++ labels_of (items_of l.items)
