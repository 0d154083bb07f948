use Rattle.thread_forms.proofs.Scripting.{scripts_are_bounded, shared_is_typed}
use Rattle.thread_forms.proofs.laws.scripts_are_bounded.Goals as goal

pub returns-clause-scripts : goal.returns-clause-scripts
returns-clause-scripts c = scripts_are_bounded

pub returns-clause-store : goal.returns-clause-store
returns-clause-store c = shared_is_typed
