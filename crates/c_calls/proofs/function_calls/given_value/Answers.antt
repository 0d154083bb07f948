use Rattle.std.proofs.Common.{◌≡◌, subst, IfOk}
use Rattle.c_types.specs.Types.{view as type_view}
use Rattle.core_tree.specs.Trees.{Expression}
use Rattle.core_tree.proofs.Views.{view_call}
use Rattle.c_operators.specs.Pointers.{plain, view_typed}
use Rattle.c_calls.proofs.function_calls.given_value.Goals as goal

pub returns : goal.returns
returns c =
    subst (λ (e : Expression). IfOk c.made.result (λ x. view_typed x ≡ plain (type_view c.args.given.0) e)) (view_call c.args.line c.args.function c.args.used c.args.given.1 c.args.arguments) c.made.ensures
