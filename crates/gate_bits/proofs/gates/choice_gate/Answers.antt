use Rattle.gate_bits.specs.Clauses.{choice_clauses}
use Rattle.gate_bits.proofs.Cells.{gate, choice_grows, choice_is}
use Rattle.gate_bits.proofs.gates.choice_gate.Goals as goal

pub returns-clause-grows : goal.returns-clause-grows
returns-clause-grows c =
    choice_grows _ _ c.args.test c.args.yes c.args.no c.in_ok-gate.out c.requires.test c.requires.yes c.requires.no
    (gate _ _ _ _ _ (choice_clauses c.args.test c.args.yes c.args.no) _ c.in_ok-gate.ensures.form c.in_ok-gate.ensures.literal c.clauses_of_choice-clauses.ensures c.in_ok-add_all.ensures c.in_ok-append.ensures.ok)

pub returns-clause-is : goal.returns-clause-is
returns-clause-is c =
    choice_is _ _ c.args.test c.args.yes c.args.no c.in_ok-gate.out
    (gate _ _ _ _ _ (choice_clauses c.args.test c.args.yes c.args.no) _ c.in_ok-gate.ensures.form c.in_ok-gate.ensures.literal c.clauses_of_choice-clauses.ensures c.in_ok-add_all.ensures c.in_ok-append.ensures.ok)
