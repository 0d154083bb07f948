use Rattle.weave.proofs.Schedules.{runs_have_candidates}
use Rattle.weave.proofs.laws.runs_have_candidates.Goals as goal

pub returns : goal.returns
returns c = runs_have_candidates
