use Rattle.std.proofs.Common.{◌<◌, Bool, false, Option, Some, None, ap, sym, ◌∙◌, arith}
use Rattle.std.specs.Prelude.{unwrap_or}
use Rattle.std.proofs.lemmas.Option.{none-some}
use Rattle.cdcl_core.specs.Steps.{Course}
use Rattle.cdcl_core.proofs.Reading.{known_truth-here, some_truth}
use Rattle.cdcl_core.proofs.trail.Trail.is_true.Goals as goal

pub returns-in-Some-clause-is : goal.returns-in-Some-clause-is
returns-in-Some-clause-is c = λ is.
    let within : c.args.literal.variable < c.args.self.now.variables =
    omega (arith, ap (λ (x : Course). x.variables) c.self.view_is, c.self.invariant.count, c.self.inside.values.ok.0) in
    sym (known_truth-here c.self.inside c.args.self.now c.args.literal c.variable-variable.result c.index.result.now (Some c.in-Some.value) c.self.invariant c.self.view_is within c.variable-variable.ensures.is c.index.ensures c.in-Some.is)
    ∙ ap Some (sym (some_truth c.in-Some.value c.is_negated.result c.args.literal.negated c.is_negated.ensures) ∙ is)

pub returns-in-Some-clause-all : goal.returns-in-Some-clause-all
returns-in-Some-clause-all c = λ within known.
    some_truth c.in-Some.value c.is_negated.result c.args.literal.negated c.is_negated.ensures
    ∙ ap (λ (o : Option Bool). unwrap_or o false) (known_truth-here c.self.inside c.args.self.now c.args.literal c.variable-variable.result c.index.result.now (Some c.in-Some.value) c.self.invariant c.self.view_is within c.variable-variable.ensures.is c.index.ensures c.in-Some.is ∙ known)

pub returns-in-None-clause-all : goal.returns-in-None-clause-all
returns-in-None-clause-all c = λ within known.
    absurd (none-some _ (known_truth-here c.self.inside c.args.self.now c.args.literal c.variable-variable.result c.index.result.now None c.self.invariant c.self.view_is within c.variable-variable.ensures.is c.index.ensures c.in-None.is ∙ known))
