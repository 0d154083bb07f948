use Rattle.thread_forms.proofs.Consistent.{meets_is_consistent}
use Rattle.thread_forms.proofs.laws.meets_is_consistent.Goals as goal

pub returns : goal.returns
returns c = meets_is_consistent
