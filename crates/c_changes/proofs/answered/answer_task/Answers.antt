use Rattle.std.proofs.Common.{rules}
use Rattle.c_tasks.specs.Plans.{code_in, active_in, items_behind, values_on, structures_on}
use Rattle.c_changes.specs.Asking.{MayAsk}
use Rattle.c_changes.proofs.Finishes.{task_asks}
use Rattle.c_changes.proofs.answered.answer_task.Goals as goal

pub answer_other-requires-clause-asks : goal.answer_other-requires-clause-asks
answer_other-requires-clause-asks c =
    let l = c.args.look.now in
    let m : MayAsk c.args.task.now = task_asks (code_in l) l.first c.args.answer.now (items_behind l) (active_in l) (values_on l) (structures_on l) l.variables.now c.args.task.now c.requires.accepts in
    search rules
