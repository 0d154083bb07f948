use Rattle.std.proofs.Common.{true, false}
use Rattle.c_operands.specs.Operands.{view_operand, used}
use Rattle.c_tree.specs.Tree.{view as tree}
use Rattle.c_elab_expr.specs.Typing.{bare_line}
use Rattle.c_elab_expr.proofs.UsedOperands.{used_typed}
use Rattle.c_elab_expr.proofs.typing.operand.Goals as goal

pub returns-clause-typed : goal.returns-clause-typed
returns-clause-typed c =
    let x = view_operand c.in_ok-core.core in
    used_typed c.args.scope.now false true (bare_line (tree c.args.expr.now)) x c.used_at.result c.in_ok-core.ensures.typed (c.used_at.ensures (used false true x) c.used.ensures)
