use Rattle.std.proofs.Common.{ap}
use Rattle.cdcl_core.specs.declared.segments.History.{History}
use Rattle.cdcl_core.proofs.Ongoing.{answer_sat, answer_unsat, answer_spent}
use Rattle.cdcl_core.proofs.segments.History.answer.Goals as goal

pub returns-in-Sat : goal.returns-in-Sat
returns-in-Sat c = λ form clauses n is given adds. answer_sat form clauses c.args.self is n n c.args.answer c.in-Sat.model c.in-Sat.is given

pub returns-in_ok-append-in-Unsat : goal.returns-in_ok-append-in-Unsat
returns-in_ok-append-in-Unsat c = λ form clauses n is given adds.
    answer_unsat form clauses c.args.self is n c.args.answer c.in-Unsat.log c.append.new.self.log c.in-Unsat.is given adds
    (ap (λ (x : History). x.log) c.in_ok-append-in-Unsat.ensures)

pub returns-in_ok-append-in-Spent : goal.returns-in_ok-append-in-Spent
returns-in_ok-append-in-Spent c = λ form clauses n is given adds.
    answer_spent form clauses c.args.self is n c.args.answer c.in-Spent.log c.append-in-Spent.new.self.log c.in-Spent.is given adds
    (ap (λ (x : History). x.log) c.in_ok-append-in-Spent.ensures)
