use Rattle.refutation_check.specs.Sets.{Grows}
use Rattle.refutation_check.specs.Moments.{database_at}
use Rattle.refutation_check.proofs.propagation.follow.Given as goal

abbrev pub invariant-loop-number : goal.invariant-loop-number
invariant-loop-number l = Grows (database_at l.moment) l.fn.set l.set
