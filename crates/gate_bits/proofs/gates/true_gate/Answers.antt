use Rattle.std.proofs.Common.{refl}
use Rattle.gate_bits.proofs.Cells.{gate, true_rows, true_grows, true_is}
use Rattle.gate_bits.proofs.gates.true_gate.Goals as goal

pub returns-clause-grows : goal.returns-clause-grows
returns-clause-grows c =
    true_grows _ _ c.in_ok-gate.out (gate _ _ _ _ _ true_rows _ c.in_ok-gate.ensures.form c.in_ok-gate.ensures.literal refl c.in_ok-add_all.ensures c.in_ok-append.ensures.ok)

pub returns-clause-is : goal.returns-clause-is
returns-clause-is c =
    true_is _ _ c.in_ok-gate.out (gate _ _ _ _ _ true_rows _ c.in_ok-gate.ensures.form c.in_ok-gate.ensures.literal refl c.in_ok-add_all.ensures c.in_ok-append.ensures.ok)
