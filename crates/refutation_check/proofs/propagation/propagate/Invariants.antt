use Rattle.refutation_check.specs.Sets.{holds, missing, Grows}
use Rattle.refutation_check.specs.Moments.{database_at}
use Rattle.refutation_check.proofs.propagation.propagate.Given as goal

abbrev pub invariant-loop : goal.invariant-loop
invariant-loop l = Grows (database_at l.moment) l.fn.set l.set

abbrev pub decreases-loop : goal.decreases-loop
decreases-loop l = missing (holds l.set) l.set.variables
