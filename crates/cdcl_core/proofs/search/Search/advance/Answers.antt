use Rattle.std.proofs.Common.{subst}
use Rattle.cdcl_core.specs.Answers.{IsPropagated, IsDone}
use Rattle.cdcl_core.proofs.Models.{IsAnswer-sat}
use Rattle.cdcl_core.proofs.search.Search.advance.Goals as goal

pub returns-in_ok-decide-in-Some-open_variable : goal.returns-in_ok-decide-in-Some-open_variable
returns-in_ok-decide-in-Some-open_variable g c = λ form ready. (
  c.in_ok-decide-in-Some-open_variable.ensures.ready form c.args.budget ready,
  c.in_ok-decide-in-Some-open_variable.ensures.watching,
  c.in_ok-decide-in-Some-open_variable.ensures.falls c.args.budget,
)

pub returns-in_ok-assignment-in-None : goal.returns-in_ok-assignment-in-None
returns-in_ok-assignment-in-None g c = λ form ready.
    let done : IsPropagated c.args.self.now = subst (IsDone c.args.self.now) c.in_default.is c.requires.done in (
      IsAnswer-sat form c.args.budget c.args.self.now c.in_ok-assignment-in-None.field-0 ready done c.in-None.ensures.none
          c.in_ok-assignment-in-None.ensures.length c.in_ok-assignment-in-None.ensures.given,
      tt,
    )
