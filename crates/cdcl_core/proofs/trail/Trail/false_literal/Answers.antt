use Rattle.std.proofs.Common.{Bool, Some, None, sym, ap, ◌∙◌}
use Rattle.std.specs.Prelude.{option_map}
use Rattle.sat_form.specs.Satisfaction.{Literal}
use Rattle.cdcl_core.proofs.Reading.{known_value-told}
use Rattle.cdcl_core.proofs.trail.Trail.false_literal.Goals as goal

pub returns-in-Some : goal.returns-in-Some
returns-in-Some c =
    ap Some c.new.ensures
    ∙ sym (ap (option_map (λ (b : Bool). let l : Literal = record { variable = c.args.variable; negated = b } in l))
    (known_value-told c.self.inside c.args.self.now c.args.variable c.index.result.now (Some c.in-Some.mark) c.self.invariant c.self.view_is c.requires c.index.ensures c.in-Some.is))

pub returns-in-None : goal.returns-in-None
returns-in-None c =
    sym (ap (option_map (λ (b : Bool). let l : Literal = record { variable = c.args.variable; negated = b } in l))
    (known_value-told c.self.inside c.args.self.now c.args.variable c.index.result.now None c.self.invariant c.self.view_is c.requires c.index.ensures c.in-None.is))
