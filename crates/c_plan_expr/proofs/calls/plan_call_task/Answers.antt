use Rattle.std.proofs.Common.{sym, subst}
use Rattle.core_tree.specs.Trees.{no_argument}
use Rattle.c_tasks.specs.declared.task.Task.{Task}
use Rattle.c_tasks.specs.Items.{wants_end, gathers}
use Rattle.c_tasks.specs.Tasks.{item_of}
use Rattle.c_tasks.specs.Plans.{PlansItem}
use Rattle.c_plan_expr.proofs.calls.plan_call_task.Goals as goal

pub returns-in-Begin : goal.returns-in-Begin
returns-in-Begin c =
    let P : Task → Type 0 = λ t. PlansItem c.args.look.now (item_of t) c.plan_call.result in
    subst P (sym c.in-Begin.is) (c.plan_call.ensures (gathers (wants_end c.in-Begin.line) c.in-Begin.function 0 no_argument))
