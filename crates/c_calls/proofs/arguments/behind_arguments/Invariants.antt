use Rattle.std.proofs.Common.{◌≡◌, length}
use Rattle.core_tree.specs.Trees.{arguments_of}
use Rattle.c_operators.specs.Pointers.{view_typed}
use Rattle.c_calls.specs.Calls.{behind, evaluated}
use Rattle.c_calls.proofs.arguments.behind_arguments.Given as goal

abbrev pub invariant-arguments : goal.invariant-arguments
invariant-arguments l =
    behind l.line (evaluated (arguments_of l.arguments.items)) (view_typed l.whole) ≡ behind l.line (evaluated (arguments_of l.initial.arguments.items)) (view_typed l.initial.whole)

abbrev pub decreases-arguments : goal.decreases-arguments
decreases-arguments l = length l.arguments.items
