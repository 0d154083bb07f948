use Rattle.thread_forms.proofs.Telling.{runs_are_told, runs_have_goals}
use Rattle.thread_forms.proofs.laws.runs_are_told.Goals as goal

pub returns-clause-told : goal.returns-clause-told
returns-clause-told c = runs_are_told

pub returns-clause-goals : goal.returns-clause-goals
returns-clause-goals c = runs_have_goals
