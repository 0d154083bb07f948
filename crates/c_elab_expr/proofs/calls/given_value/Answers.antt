use Rattle.std.proofs.Common.{◌≡◌, false, subst, IfOk}
use Rattle.core_tree.specs.Trees.{Expression}
use Rattle.core_tree.proofs.Views.{view_call}
use Rattle.c_operands.specs.Operands.{value, view_operand}
use Rattle.c_elab_expr.proofs.calls.given_value.Goals as goal

pub returns : goal.returns
returns c =
    subst (λ (e : Expression). IfOk c.made.result (λ x. view_operand x ≡ value e false)) (view_call c.args.line c.args.function c.args.used c.args.type_ c.args.arguments) c.made.ensures
