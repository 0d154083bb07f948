use Rattle.std.proofs.Common.{◌≡◌, List, [], ◌∷◌, ◌++◌, map, ap, ◌∙◌}
use Rattle.sat_form.specs.Satisfaction.{Literal, inverse_of}
use Rattle.gate_bits.specs.Clauses.{each_clauses, all_clauses}
use Rattle.gate_bits.proofs.Cells.{gate, added_twice, long_within, literals_within, all_grows, all_is}
use Rattle.gate_bits.proofs.gates.all.Goals as goal

pub add-requires : goal.add-requires
add-requires c =
    long_within c.args.cnf.now c.in_ok-gate.gate c.args.literals.now c.in_ok-inverses.field-0.items c.deref-2.result.now c.in_ok-gate.out c.in_ok-gate.ensures.form c.in_ok-gate.ensures.literal c.in_ok-inverses.ensures
    (c.deref-2.ensures.value ∙ c.in_ok-extend_from_slice.ensures.items ∙ (λ k. c.in_ok-long.ensures.items k ++ c.deref.ensures.value k)) c.requires

pub add_each-requires-clause-literals : goal.add_each-requires-clause-literals
add_each-requires-clause-literals c = literals_within c.args.cnf.now c.in_ok-gate.gate c.add.new.self _ c.args.literals.now c.in_ok-gate.ensures.form c.in_ok-add.ensures.ok c.requires

pub returns-clause-grows : goal.returns-clause-grows
returns-clause-grows c =
    let o : Literal = c.in_ok-gate.out in
    let ls : List Literal = c.args.literals.now in
    let long : c.deref-2.result.now ≡ o ∷ map inverse_of ls =
    c.deref-2.ensures.value ∙ c.in_ok-extend_from_slice.ensures.items ∙ (λ k. c.in_ok-long.ensures.items k ++ c.deref.ensures.value k) ∙ ap (λ (ms : List Literal). o ∷ ms) c.in_ok-inverses.ensures in
    all_grows c.args.cnf.now _ ls o c.requires
    (gate c.args.cnf.now _ _ _ o (all_clauses ls) ((c.deref-2.result.now ∷ []) ++ each_clauses ls o) c.in_ok-gate.ensures.form c.in_ok-gate.ensures.literal
    (λ k. long k ∷ each_clauses ls o) (added_twice _ _ _ (c.deref-2.result.now ∷ []) (each_clauses ls o) c.in_ok-add.ensures.ok c.in_ok-add_each.ensures) c.in_ok-append.ensures.ok)

pub returns-clause-is : goal.returns-clause-is
returns-clause-is c =
    let o : Literal = c.in_ok-gate.out in
    let ls : List Literal = c.args.literals.now in
    let long : c.deref-2.result.now ≡ o ∷ map inverse_of ls =
    c.deref-2.ensures.value ∙ c.in_ok-extend_from_slice.ensures.items ∙ (λ k. c.in_ok-long.ensures.items k ++ c.deref.ensures.value k) ∙ ap (λ (ms : List Literal). o ∷ ms) c.in_ok-inverses.ensures in
    all_is c.args.cnf.now _ ls o
    (gate c.args.cnf.now _ _ _ o (all_clauses ls) ((c.deref-2.result.now ∷ []) ++ each_clauses ls o) c.in_ok-gate.ensures.form c.in_ok-gate.ensures.literal
    (λ k. long k ∷ each_clauses ls o) (added_twice _ _ _ (c.deref-2.result.now ∷ []) (each_clauses ls o) c.in_ok-add.ensures.ok c.in_ok-add_each.ensures) c.in_ok-append.ensures.ok)
