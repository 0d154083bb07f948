use Rattle.std.proofs.Common.{◌≡◌, length, map}
use Rattle.core_tree.specs.Trees.{boxed}
use Rattle.c_operators.specs.Pointers.{view_typed}
use Rattle.c_calls.specs.Calls.{behind}
use Rattle.c_calls.proofs.arguments.behind.Given as goal

abbrev pub invariant-values : goal.invariant-values
invariant-values l =
    behind l.line (map boxed l.before.items) (view_typed l.whole) ≡ behind l.line (map boxed l.initial.before.items) (view_typed l.initial.whole)

abbrev pub decreases-values : goal.decreases-values
decreases-values l = length l.before.items
