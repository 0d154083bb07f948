use Rattle.std.proofs.Common.{◌<◌, [], sym, ◌∙◌}
use Rattle.std.proofs.lemmas.List.Elements.{All-contains, All-from_recursion}
use Rattle.sat_form.specs.Satisfaction.{Literal}
use Rattle.sat_form.proofs.Databases.{Contains-head}
use Rattle.refutation_check.proofs.Growing.{HasInserted, Grows-inserted, missing-inserted}
use Rattle.refutation_check.proofs.propagation.visit.Goals as goal

pub returns-in-Falsified-clause-outcome : goal.returns-in-Falsified-clause-outcome
returns-in-Falsified-clause-outcome c = (c.args.clause.now, Contains-head c.args.clause.now [], c.in-Falsified.ensures)

pub returns-else-contains-clause-grows : goal.returns-else-contains-clause-grows
returns-else-contains-clause-grows c =
    let inserted : HasInserted c.args.set.now c.insert.new.self c.in-Last.literal = record { variables = c.insert.ensures.variables; inserted = c.insert.ensures.inserted; others = c.insert.ensures.others } in
    Grows-inserted c.args.clause.now c.args.set.now c.insert.new.self c.in-Last.literal inserted c.in-Last.ensures.0 c.in-Last.ensures.1

pub returns-else-contains-clause-outcome : goal.returns-else-contains-clause-outcome
returns-else-contains-clause-outcome c =
    let inserted : HasInserted c.args.set.now c.insert.new.self c.in-Last.literal = record { variables = c.insert.ensures.variables; inserted = c.insert.ensures.inserted; others = c.insert.ensures.others } in
    missing-inserted c.args.set.now c.insert.new.self c.in-Last.literal inserted
    (All-contains (λ (l : Literal). l.variable < c.args.set.now.variables) c.args.clause.now c.in-Last.literal
    (All-from_recursion (λ (l : Literal). l.variable < c.args.set.now.variables) c.args.clause.now c.requires) c.in-Last.ensures.0.stands)
    (sym c.contains.ensures ∙ c.if-contains.false)
