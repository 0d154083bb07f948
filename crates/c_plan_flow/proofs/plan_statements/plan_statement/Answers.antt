use Rattle.std.proofs.Common.{ap, sym, subst, ◌∙◌}
use Rattle.core_tree.specs.Trees.{Statement, view_statement}
use Rattle.core_tree.proofs.Views.{view_block}
use Rattle.c_tasks.specs.Items.{runs}
use Rattle.c_tasks.specs.Plans.{PlansItem}
use Rattle.c_plan_flow.proofs.plan_statements.plan_statement.Goals as goal

pub returns-in-Block : goal.returns-in-Block
returns-in-Block c =
    let P : Statement → Type 0 = λ s. PlansItem c.args.look.now (runs s) c.plan_block.result in
    subst P (sym (ap view_statement c.in-Block.is ∙ view_block c.in-Block.items)) c.plan_block.ensures
