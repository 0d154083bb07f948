use Rattle.std.proofs.Common.{◌≡◌, [], take}
use Rattle.c_tree.specs.Statements.{items_of}
use Rattle.c_elab_flow.specs.Lookahead.{Looks}
use Rattle.c_elab_flow.proofs.jumps.ahead_of.Given as goal

abbrev pub invariant-loop-item : goal.invariant-loop-item
invariant-loop-item l = record {
  number : l.number ≡ l.item-index;
  looks : Looks l.switched (items_of (take l.item-index l.items)) [] l.ahead;
}
