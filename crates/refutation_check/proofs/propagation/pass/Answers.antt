use Rattle.std.proofs.Common.{◌+◌, sym, subst, arith}
use Rattle.refutation_check.specs.Moments.{entries_before, database_at, IsPassing}
use Rattle.refutation_check.proofs.Growing.{Grows-trans}
use Rattle.refutation_check.proofs.Visiting.{IsPassing-still, IsPassing-grown, IsOutcome-passed}
use Rattle.refutation_check.proofs.propagation.pass.Goals as goal
use Rattle.refutation_check.proofs.propagation.pass.Goals.{in-Still, in-Grown}

pub returns-in-Conflict-clause-grows : goal.returns-in-Conflict-clause-grows
returns-in-Conflict-clause-grows c = Grows-trans (database_at c.args.moment.now) _ _ _ c.loop-number.invariant.0 c.visit_number.ensures.grows

pub loop-number-preserved : goal.loop-number-preserved
loop-number-preserved c =
    let form = c.args.moment.now.clauses.now in
    let before = entries_before c.args.moment.now in (
      Grows-trans (database_at c.args.moment.now) _ _ _ c.loop-number.invariant.0 c.visit_number.ensures.grows,
      elim c.match-visit_number.branch [
        | in-Still w ↦ subst (IsPassing form before c.args.set.now c.visit_number.new.set (c.loop-number.number + 1)) (sym w.outcome-is)
            (IsPassing-still form before c.args.set.now c.loop-number.set c.visit_number.new.set c.loop-number.number c.loop-number.outcome c.loop-number.invariant.1 w.in-Still.ensures.outcome)
        | in-Grown w ↦ subst (IsPassing form before c.args.set.now c.visit_number.new.set (c.loop-number.number + 1)) (sym w.outcome-is)
            (IsPassing-grown form before c.args.set.now c.loop-number.set c.visit_number.new.set c.loop-number.number c.loop-number.invariant.0 w.in-Grown.ensures.outcome)
      ],
    )

pub returns-clause-outcome : goal.returns-clause-outcome
returns-clause-outcome c =
    IsOutcome-passed c.args.moment.now.clauses.now (entries_before c.args.moment.now) c.args.set.now c.loop-number.set c.loop-number.number c.loop-number.outcome
    (omega arith) c.loop-number.invariant.1
