use Rattle.std.proofs.Common.{◌≡◌, ◌≤◌, ℕ, List, [], length, drop}
use Rattle.c_tree.specs.Statements.{items_of as trees}
use Rattle.c_elab_type.specs.Steps.{items_first}
use Rattle.c_elab_flow.specs.Lookahead.{Looks}
use Rattle.c_elab_flow.specs.Nodes.{view_around}
use Rattle.c_elab_decl.specs.Statements.{typed_items}
use Rattle.c_elab_decl.proofs.statements.+statement.Given as goal

abbrev pub invariant-typed_items-loop-item : goal.invariant-typed_items-loop-item
invariant-typed_items-loop-item l = record {
  number : l.number ≡ l.item-index;
  jumps : (jumped : List (List ℕ)) × Looks l.switched (trees l.items) jumped l.ahead
      × (items_first l.cores.items (typed_items (view_around l.around) l.switched l.outer jumped l.scope (trees (drop l.item-index l.items)))
      ≡ typed_items (view_around l.around) l.switched l.outer [] l.initial.scope (trees l.items));
  within : l.outer ≤ length l.scope.bindings;
}
