use Rattle.std.proofs.Common.{◌≡◌, [], ◌∙◌}
use Rattle.sat_form.specs.Satisfaction.{Form}
use Rattle.gate_arith.proofs.Calls.{Part_none, Part_one}
use Rattle.gate_arith.proofs.operations.part_of.Goals as goal
use Rattle.gate_arith.proofs.operations.part_of.Goals.{in-Some+in_ok-add, in_default}

pub returns-clause-is : goal.returns-clause-is
returns-clause-is c =
    let f : Form = c.args.cnf.now in
    let empty : c.from_parts-part.result ≡ record { variables = f.variables; clauses = [] } = c.from_parts-part.ensures ∙ (λ k. record { variables = c.variables.ensures.is k; clauses = c.new.ensures.items k }) in
    elim c.match-known.branch [
      | in-Some+in_ok-add w ↦ Part_one f c.from_parts-part.result c.match-known.part w.in-Some.one c.known.ensures.within w.in-Some.ensures.first empty (w.part-is ∙ w.in_ok-add.ensures.ok)
      | in_default w ↦ Part_none f c.match-known.part c.known.ensures.within (w.part-is ∙ empty)
    ]
