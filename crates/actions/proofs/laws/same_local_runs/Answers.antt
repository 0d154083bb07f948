use Rattle.actions.proofs.LocalRuns.{same_behaviours}
use Rattle.actions.proofs.laws.same_local_runs.Goals as goal

pub returns : goal.returns
returns c = same_behaviours
