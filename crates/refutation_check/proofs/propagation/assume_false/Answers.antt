use Rattle.std.proofs.Common.{List, take, sym, ap, ◌∙◌, subst}
use Rattle.sat_form.specs.Satisfaction.{Literal}
use Rattle.refutation_check.specs.Sets.{holds}
use Rattle.refutation_check.specs.Outcomes.{IsNegation}
use Rattle.refutation_check.proofs.Visiting.{take-read, IsNegation-push}
use Rattle.refutation_check.proofs.propagation.assume_false.Goals as goal

pub loop-literal-preserved : goal.loop-literal-preserved
loop-literal-preserved c =
    let items : List Literal = c.literals-literal-items.result.now in
    let y : Literal = c.literal-item.result in (
      c.insert.ensures.variables ∙ c.loop-literal.invariant.0,
      subst (λ (x : List Literal). IsNegation x (holds c.insert.new.self)) (take-read items c.loop-literal.literal-index y c.loop-literal-test.true c.literal-item.is)
          (IsNegation-push (holds c.loop-literal.set) (holds c.insert.new.self) (take c.loop-literal.literal-index items) y c.loop-literal.invariant.1 (sym c.contains.ensures ∙ c.if-contains.false)
          (sym (ap (holds c.insert.new.self) c.inverse.ensures) ∙ c.insert.ensures.inserted)
          (λ m other. c.insert.ensures.others m (λ e. other (e ∙ c.inverse.ensures)))),
    )
