use Rattle.std.proofs.Common.{◌≡◌, length, map}
use Rattle.core_tree.specs.Trees.{boxed}
use Rattle.c_calls.specs.Calls.{turned, extra_arguments}
use Rattle.c_calls.proofs.Passing.{more_extra}
use Rattle.c_calls.proofs.arguments.extra_arguments.Given as goal

abbrev pub invariant-operands : goal.invariant-operands
invariant-operands l = more_extra (map boxed l.extra.items) (extra_arguments l.ellipsis (turned l.operands.items)) ≡ extra_arguments l.ellipsis (turned l.initial.operands.items)

abbrev pub decreases-operands : goal.decreases-operands
decreases-operands l = length l.operands.items
