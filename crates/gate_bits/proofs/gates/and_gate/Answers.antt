use Rattle.std.proofs.Common.{[], ◌∷◌}
use Rattle.gate_bits.specs.Clauses.{and_clauses}
use Rattle.gate_bits.proofs.Cells.{gate, added_twice, and_grows, and_is}
use Rattle.gate_bits.proofs.gates.and_gate.Goals as goal

pub returns-clause-grows : goal.returns-clause-grows
returns-clause-grows c =
    and_grows _ _ c.args.a c.args.b c.in_ok-gate.out c.requires.a c.requires.b
    (gate _ _ _ _ _ (and_clauses c.args.a c.args.b) _ c.in_ok-gate.ensures.form c.in_ok-gate.ensures.literal
    (λ k. (c.args.a ∷ c.inverse.ensures k ∷ []) ∷ (c.args.b ∷ c.inverse-2.ensures k ∷ []) ∷ (c.inverse-3.ensures k ∷ c.inverse-4.ensures k ∷ c.in_ok-gate.out ∷ []) ∷ [])
    (added_twice _ _ _ _ _ c.in_ok-add_all.ensures c.in_ok-add_all-2.ensures) c.in_ok-append.ensures.ok)

pub returns-clause-is : goal.returns-clause-is
returns-clause-is c =
    and_is _ _ c.args.a c.args.b c.in_ok-gate.out
    (gate _ _ _ _ _ (and_clauses c.args.a c.args.b) _ c.in_ok-gate.ensures.form c.in_ok-gate.ensures.literal
    (λ k. (c.args.a ∷ c.inverse.ensures k ∷ []) ∷ (c.args.b ∷ c.inverse-2.ensures k ∷ []) ∷ (c.inverse-3.ensures k ∷ c.inverse-4.ensures k ∷ c.in_ok-gate.out ∷ []) ∷ [])
    (added_twice _ _ _ _ _ c.in_ok-add_all.ensures c.in_ok-add_all-2.ensures) c.in_ok-append.ensures.ok)
