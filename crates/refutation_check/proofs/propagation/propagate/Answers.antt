use Rattle.refutation_check.specs.Moments.{database_at}
use Rattle.refutation_check.proofs.Growing.{Grows-trans}
use Rattle.refutation_check.proofs.propagation.propagate.Goals as goal

pub loop-preserved : goal.loop-preserved
loop-preserved c = Grows-trans (database_at c.args.moment.now) _ _ _ c.loop.invariant c.pass.ensures.grows

pub returns-in-Conflict-clause-grows : goal.returns-in-Conflict-clause-grows
returns-in-Conflict-clause-grows c = Grows-trans (database_at c.args.moment.now) _ _ _ c.loop.invariant c.pass.ensures.grows
