use Rattle.refutation_check.specs.Moments.{database_at}
use Rattle.refutation_check.proofs.Growing.{Grows-trans}
use Rattle.refutation_check.proofs.propagation.follow.Goals as goal

pub returns-in-Conflict-clause-grows : goal.returns-in-Conflict-clause-grows
returns-in-Conflict-clause-grows c = Grows-trans (database_at c.args.moment.now) _ _ _ c.loop-number.invariant c.visit_number.ensures.grows

pub loop-number-preserved : goal.loop-number-preserved
loop-number-preserved c = Grows-trans (database_at c.args.moment.now) _ _ _ c.loop-number.invariant c.visit_number.ensures.grows
