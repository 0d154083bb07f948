use Rattle.std.proofs.Common.{◌≡◌, drop}
use Rattle.c_tree.specs.Statements.{items_of}
use Rattle.c_elab_flow.specs.Jumps.{jumps_of}
use Rattle.c_elab_flow.specs.Lookahead.{with_jumps}
use Rattle.c_elab_flow.proofs.jumps.Ahead.+jumps.Given as goal

abbrev pub invariant-note_jumps_of-loop-item : goal.invariant-note_jumps_of-loop-item
invariant-note_jumps_of-loop-item l = with_jumps l.self (jumps_of (items_of (drop l.item-index l.items))) ≡ with_jumps l.initial.self (jumps_of (items_of l.items))
