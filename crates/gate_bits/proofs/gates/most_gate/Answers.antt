use Rattle.gate_bits.specs.Clauses.{most_clauses}
use Rattle.gate_bits.proofs.Cells.{gate, most_grows, most_is}
use Rattle.gate_bits.proofs.gates.most_gate.Goals as goal

pub returns-clause-grows : goal.returns-clause-grows
returns-clause-grows c =
    most_grows _ _ c.args.a c.args.b c.args.c c.in_ok-gate.out c.requires.a c.requires.b c.requires.c
    (gate _ _ _ _ _ (most_clauses c.args.a c.args.b c.args.c) _ c.in_ok-gate.ensures.form c.in_ok-gate.ensures.literal c.clauses_of_most-clauses.ensures c.in_ok-add_all.ensures c.in_ok-append.ensures.ok)

pub returns-clause-is : goal.returns-clause-is
returns-clause-is c =
    most_is _ _ c.args.a c.args.b c.args.c c.in_ok-gate.out
    (gate _ _ _ _ _ (most_clauses c.args.a c.args.b c.args.c) _ c.in_ok-gate.ensures.form c.in_ok-gate.ensures.literal c.clauses_of_most-clauses.ensures c.in_ok-add_all.ensures c.in_ok-append.ensures.ok)
