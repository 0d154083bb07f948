use Rattle.thread_forms.proofs.Forking.{scripts_have_forms}
use Rattle.thread_forms.proofs.laws.scripts_have_forms.Goals as goal

pub returns : goal.returns
returns c = scripts_have_forms
