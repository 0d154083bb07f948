use Rattle.std.proofs.Common.{◌<◌, ◌≤◌, length, None, ap, ◌∙◌, arith}
use Rattle.cdcl_core.specs.Steps.{Course}
use Rattle.cdcl_core.proofs.Courses.{length-AreFresh}
use Rattle.cdcl_core.proofs.Reading.{known_truth-told, known_truth-now, height-told, height-before, place-marked, fresh-read}
use Rattle.cdcl_core.proofs.trail.Trail.height.Goals as goal

pub overflow_add-result : goal.overflow_add-result
overflow_add-result c =
    let here : c.variable.result < c.args.self.now.variables = omega (arith, c.requires, c.variable.ensures.is) in
    let below : c.in-Some.mark.place < length c.args.self.now.steps =
    place-marked c.self.inside c.args.self.now c.variable.result c.index.result.now c.in-Some.mark c.self.invariant c.self.view_is here c.index.ensures c.in-Some.is in
    let fits : length c.args.self.now.steps ≤ c.args.self.now.variables = length-AreFresh _ _ (fresh-read c.self.inside c.args.self.now c.self.invariant c.self.view_is) in
    omega (arith, below, fits, ap (λ (x : Course). x.variables) c.self.view_is, c.self.invariant.limit)

pub returns-in-Some-clause-told : goal.returns-in-Some-clause-told
returns-in-Some-clause-told c =
    height-told c.self.inside c.args.self.now c.args.literal c.variable.result c.index.result.now c.in-Some.mark c.self.invariant c.self.view_is c.requires c.variable.ensures.is c.index.ensures c.in-Some.is

pub returns-in-Some-clause-before : goal.returns-in-Some-clause-before
returns-in-Some-clause-before c = λ k before.
    height-before c.self.inside c.args.self.now c.args.literal c.variable.result k c.index.result.now c.in-Some.mark c.self.invariant c.self.view_is c.requires c.variable.ensures.is c.index.ensures c.in-Some.is before

pub returns-in-None-clause-told : goal.returns-in-None-clause-told
returns-in-None-clause-told c =
    known_truth-told c.self.inside c.args.self.now c.args.literal c.variable.result 0 c.index.result.now None c.self.invariant c.self.view_is c.requires c.variable.ensures.is c.index.ensures c.in-None.is
    ∙ known_truth-now c.self.inside c.args.self.now c.args.literal c.variable.result c.index.result.now None c.self.invariant c.self.view_is c.requires c.variable.ensures.is c.index.ensures c.in-None.is
