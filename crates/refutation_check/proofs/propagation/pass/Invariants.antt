use Rattle.refutation_check.specs.Sets.{Grows}
use Rattle.refutation_check.specs.Moments.{entries_before, database_at, IsPassing}
use Rattle.refutation_check.proofs.propagation.pass.Given as goal

abbrev pub invariant-loop-number : goal.invariant-loop-number
invariant-loop-number l =
    Grows (database_at l.moment) l.fn.set l.set
    × IsPassing l.moment.clauses.now (entries_before l.moment) l.fn.set l.set l.number l.outcome
