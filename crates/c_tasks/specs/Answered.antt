-- What the answer to an action leaves, in the state that is looked at.
use Rattle.actions.specs.declared.action.Answer.{Answer}
use Rattle.c_tasks.specs.declared.task.Look.{Look}
use Rattle.c_tasks.specs.declared.task.Change.{Change}
use Rattle.c_tasks.specs.Items.{Item}
use Rattle.c_tasks.specs.Fits.{variables_at}
use Rattle.c_tasks.specs.Tasks.{Answers, Accepts, ChangesWithin}
use Rattle.c_tasks.specs.Plans.{file_in, active_in, items_behind, values_on, structures_on, move_of}

abbrev pub AnswersItem : Look → Item → Answer → Change → Type 0
AnswersItem l i a c = Answers (items_behind l) (active_in l) (values_on l) (structures_on l) l.variables.now (move_of l i) a c × ChangesWithin (variables_at (file_in l) l.function) (structures_on l) c

abbrev pub AcceptsItem : Look → Item → Answer → Type 0
AcceptsItem l i a = Accepts (move_of l i) a
