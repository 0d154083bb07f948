use Rattle.std.proofs.Common.{subst}
use Rattle.cdcl_core.specs.Answers.{IsAnswer}
use Rattle.run_search.proofs.searching.values_for.Goals as goal

pub returns-else-not-check : goal.returns-else-not-check
returns-else-not-check c =
    let blasted = c.in_ok-blasted.blasted in
    let found = subst (IsAnswer blasted.cnf c.args.budget) c.in-Unsat.is c.in_ok-answer.ensures in (
      λ v true_there. let x = c.in_ok-blasted.ensures.extends v true_there in c.no_model.ensures blasted.cnf.clauses c.in-Unsat.log found.0 x.0 x.2,
      (blasted.map, c.in_ok-blasted.ensures.steps),
      found.0,
      found.1,
      found.3,
    )
