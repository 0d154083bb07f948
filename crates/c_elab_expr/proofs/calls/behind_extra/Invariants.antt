use Rattle.std.proofs.Common.{◌≡◌, length, map}
use Rattle.core_tree.specs.Trees.{boxed}
use Rattle.c_operands.specs.Operands.{view_operand, behind_extra}
use Rattle.c_elab_expr.proofs.calls.behind_extra.Given as goal

abbrev pub invariant-extra : goal.invariant-extra
invariant-extra l =
    behind_extra l.layouts.done l.line (map boxed l.extra.items) (view_operand l.whole) ≡ behind_extra l.layouts.done l.line (map boxed l.initial.extra.items) (view_operand l.initial.whole)

abbrev pub decreases-extra : goal.decreases-extra
decreases-extra l = length l.extra.items
