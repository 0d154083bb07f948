use Rattle.std.proofs.Common.{sym}
use Rattle.sat_form.proofs.Databases.{database-has}
use Rattle.refutation_check.specs.Moments.{entries_before, database_at}
use Rattle.refutation_check.proofs.Growing.{Grows-clause}
use Rattle.refutation_check.proofs.Lookups.{IsWithin-live}
use Rattle.refutation_check.proofs.Visiting.{IsVisit-clause}
use Rattle.refutation_check.proofs.propagation.visit_number.Goals as goal

pub visit-requires : goal.visit-requires
visit-requires c =
    IsWithin-live c.args.set.now.variables c.args.moment.now.place c.args.number c.args.moment.now.clauses.now c.args.moment.now.log.now c.in-Some.clause.now
    c.requires.within.form c.requires.within.log (sym c.in-Some.ensures)

pub returns-in-Some-clause-grows : goal.returns-in-Some-clause-grows
returns-in-Some-clause-grows c =
    Grows-clause (database_at c.args.moment.now) c.in-Some.clause.now c.args.set.now c.visit.new.set
    (database-has c.args.moment.now.clauses.now (entries_before c.args.moment.now) c.args.number c.in-Some.clause.now (sym c.in-Some.ensures)) c.visit.ensures.grows

pub returns-in-Some-clause-outcome : goal.returns-in-Some-clause-outcome
returns-in-Some-clause-outcome c =
    IsVisit-clause c.args.moment.now.clauses.now (entries_before c.args.moment.now) c.args.number c.in-Some.clause.now c.args.set.now c.visit.new.set c.visit.result
    (sym c.in-Some.ensures) c.visit.ensures.outcome
