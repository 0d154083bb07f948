use Rattle.std.proofs.Common.{ap, sym, subst, ◌∙◌}
use Rattle.core_tree.specs.Trees.{Expression, view}
use Rattle.core_tree.proofs.Views.{view_call}
use Rattle.c_tasks.specs.Items.{evaluates}
use Rattle.c_tasks.specs.Plans.{PlansItem}
use Rattle.c_plan_expr.proofs.plan_expressions.plan_expression.Goals as goal

pub returns-in-Call : goal.returns-in-Call
returns-in-Call c =
    let n = c.in-Call in
    let P : Expression → Type 0 = λ e. PlansItem c.args.look.now (evaluates e) c.plan_number_call.result in
    subst P (sym (ap view n.is ∙ view_call n.line n.function n.used n.type_ n.arguments)) c.plan_number_call.ensures
