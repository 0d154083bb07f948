use Rattle.std.proofs.Common.{◌≡◌, false, List, Some, None, refl, sym, ap, ◌∙◌}
use Rattle.std.specs.Prelude.{Contains, slice_get}
use Rattle.sat_form.specs.Satisfaction.{Literal}
use Rattle.cdcl_core.specs.declared.trail.Step.{Step}
use Rattle.cdcl_core.specs.Steps.{Course, known_value, known_truth}
use Rattle.cdcl_core.specs.Settled.{IsReason}
use Rattle.cdcl_core.specs.Going.{GoesOn}
use Rattle.cdcl_core.proofs.Places.{read_at}
use Rattle.cdcl_core.proofs.Listed.{IsWithin-contains, IsWithin-read}
use Rattle.cdcl_core.proofs.Watching.{known_value-open, known_truth-newest}
use Rattle.cdcl_core.proofs.Going.{GoesOn-push, IsHeld-push}
use Rattle.cdcl_core.proofs.Looking.{first_stands}
use Rattle.cdcl_core.proofs.search.Search.take.Goals as goal

pub returns-in-Some-value_of-clause-false_ : goal.returns-in-Some-value_of-clause-false_
returns-in-Some-value_of-clause-false_ c = λ is d found m at.
    let first : slice_get c.literals.result.now 0 ≡ Some c.in-Some.literal = sym c.first.ensures.value ∙ sym c.copied.ensures ∙ c.in-Some.is in
    let stands : Contains d c.in-Some.literal =
    first_stands c.args.self.now.clauses c.args.number d c.at.result.now c.literals.result.now c.in-Some.literal found (read_at c.args.self.now.clauses c.args.number c.at.result.now c.at.ensures) c.literals.ensures first in
    ap (known_truth c.args.self.now.trail.steps) (c.requires.single d found c.in-Some.literal m stands at) ∙ sym c.in-Some-value_of.ensures ∙ ap Some is

pub returns-in_ok-push-in-None-clause-on : goal.returns-in_ok-push-in-None-clause-on
returns-in_ok-push-in-None-clause-on c =
    let step : Step = record { literal = c.in-Some.literal; decision = false; reason = Some c.args.number } in
    let none : known_value c.args.self.now.trail.steps c.in-Some.literal.variable ≡ None = known_value-open c.args.self.now.trail.steps c.in-Some.literal (sym c.in-None.ensures) in
    let on : GoesOn c.args.self.now.trail c.push.new.self = GoesOn-push c.args.self.now.trail c.push.new.self step c.in_ok-push-in-None.ensures.ok refl c.push.ensures.room none in
    on

pub returns-in_ok-push-in-None-clause-held : goal.returns-in_ok-push-in-None-clause-held
returns-in_ok-push-in-None-clause-held c =
    let first : slice_get c.literals.result.now 0 ≡ Some c.in-Some.literal = sym c.first.ensures.value ∙ sym c.copied.ensures ∙ c.in-Some.is in
    let step : Step = record { literal = c.in-Some.literal; decision = false; reason = Some c.args.number } in
    let none : known_value c.args.self.now.trail.steps c.in-Some.literal.variable ≡ None = known_value-open c.args.self.now.trail.steps c.in-Some.literal (sym c.in-None.ensures) in
    let on : GoesOn c.args.self.now.trail c.push.new.self = GoesOn-push c.args.self.now.trail c.push.new.self step c.in_ok-push-in-None.ensures.ok refl c.push.ensures.room none in
    let clause : List Literal = c.at.result.now in
    let found : slice_get c.args.self.now.clauses c.args.number ≡ Some clause = c.at.ensures in
    let stands : Contains clause c.in-Some.literal =
    first_stands c.args.self.now.clauses c.args.number clause clause c.literals.result.now c.in-Some.literal found (read_at c.args.self.now.clauses c.args.number c.at.result.now c.at.ensures) c.literals.ensures first in
    let reason : IsReason c.args.self.now.clauses c.args.self.now.trail.steps c.in-Some.literal c.args.number =
    record { clause = clause; found = found; stands = stands; others = λ m at other. absurd (other (c.requires.single clause found c.in-Some.literal m stands at)) } in
    IsHeld-push c.args.self.now.clauses c.args.self.now.trail c.push.new.self c.args.self.now.watches step c.args.number c.in_ok-push-in-None.ensures.ok refl refl reason
    (IsWithin-contains c.args.self.now.trail.variables clause c.in-Some.literal
    (IsWithin-read c.args.self.now.trail.variables c.args.self.now.clauses c.args.number clause c.requires.held.within c.requires.number (read_at c.args.self.now.clauses c.args.number c.at.result.now c.at.ensures)) stands) none on c.requires.held

pub returns-in_ok-push-in-None-clause-true_ : goal.returns-in_ok-push-in-None-clause-true_
returns-in_ok-push-in-None-clause-true_ c = λ _ d found.
    let first : slice_get c.literals.result.now 0 ≡ Some c.in-Some.literal = sym c.first.ensures.value ∙ sym c.copied.ensures ∙ c.in-Some.is in
    let step : Step = record { literal = c.in-Some.literal; decision = false; reason = Some c.args.number } in
    record {
      literal = c.in-Some.literal;
      stands = first_stands c.args.self.now.clauses c.args.number d c.at.result.now c.literals.result.now c.in-Some.literal found (read_at c.args.self.now.clauses c.args.number c.at.result.now c.at.ensures) c.literals.ensures first;
      is = ap (λ (x : Course). known_truth x.steps c.in-Some.literal) c.in_ok-push-in-None.ensures.ok
          ∙ known_truth-newest step c.args.self.now.trail.steps c.in-Some.literal refl;
    }
