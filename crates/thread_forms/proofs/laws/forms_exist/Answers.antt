use Rattle.thread_forms.proofs.Ending.{are_two_threads}
use Rattle.thread_forms.proofs.Exiting.{is_instance}
use Rattle.thread_forms.proofs.Creating.{has_create}
use Rattle.thread_forms.proofs.Breaking.{has_order}
use Rattle.thread_forms.proofs.laws.forms_exist.Goals as goal

pub returns-clause-ends : goal.returns-clause-ends
returns-clause-ends c = is_instance

pub returns-clause-creates : goal.returns-clause-creates
returns-clause-creates c = has_create

pub returns-clause-breaks : goal.returns-clause-breaks
returns-clause-breaks c = has_order

pub returns-clause-both : goal.returns-clause-both
returns-clause-both c = are_two_threads
