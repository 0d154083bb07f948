use Rattle.form_threads.proofs.Forming.{form_is_of_threads}
use Rattle.form_threads.proofs.laws.form_is_of_threads.Goals as goal

pub returns : goal.returns
returns c = form_is_of_threads
