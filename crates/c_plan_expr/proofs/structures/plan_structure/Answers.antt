use Rattle.std.proofs.Common.{ap, sym, subst, ◌∙◌}
use Rattle.std.specs.Prelude.{IfOk}
use Rattle.core_tree.specs.Trees.{Structure, view_structure}
use Rattle.core_tree.proofs.Views.{view_list, view_give}
use Rattle.c_tasks.specs.Items.{evaluates_structure}
use Rattle.c_tasks.specs.Plans.{PlansItem}
use Rattle.c_plan_expr.proofs.structures.plan_structure.Goals as goal

pub returns-in-List : goal.returns-in-List
returns-in-List c =
    let n = c.in-List in
    let P : Structure → Type 0 = λ a. IfOk c.plan_started.result (λ p. PlansItem c.args.look.now (evaluates_structure a) p) in
    subst P (sym (ap view_structure n.is ∙ view_list n.line n.size n.parts)) c.plan_started.ensures

pub returns-in-Call : goal.returns-in-Call
returns-in-Call c =
    let n = c.in-Call in
    let P : Structure → Type 0 = λ a. PlansItem c.args.look.now (evaluates_structure a) c.plan_structure_call.result in
    subst P (sym (ap view_structure n.is ∙ view_give n.line n.function n.used n.size n.arguments)) c.plan_structure_call.ensures
