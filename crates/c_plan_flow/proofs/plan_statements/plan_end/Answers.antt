use Rattle.std.proofs.Common.{ap, sym, subst, ◌∙◌}
use Rattle.core_tree.specs.Trees.{Statement, view_statement}
use Rattle.c_profile.proofs.Switches.{view_switch}
use Rattle.c_tasks.specs.Tasks.{end_of}
use Rattle.c_tasks.specs.Plans.{PlansItem}
use Rattle.c_plan_flow.proofs.plan_statements.plan_end.Goals as goal

pub returns-in-Switch : goal.returns-in-Switch
returns-in-Switch c =
    let P : Statement → Type 0 = λ s. PlansItem c.args.look.now (end_of s) c.plan_select.result in
    subst P (sym (ap view_statement c.in-Switch.is ∙ view_switch c.in-Switch.line c.in-Switch.value c.in-Switch.items)) c.plan_select.ensures
