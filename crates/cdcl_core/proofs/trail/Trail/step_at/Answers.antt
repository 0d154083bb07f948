use Rattle.std.proofs.Common.{◌≡◌, suc, ◌∷◌, ◌<◌, ◌≤◌, ap, subst, sym, length, reverse, arith}
use Rattle.std.proofs.lemmas.List.{length-reverse}
use Rattle.cdcl_core.specs.declared.trail.Step.{Step}
use Rattle.cdcl_core.specs.Steps.{Course, oldest}
use Rattle.cdcl_core.proofs.Courses.{length-AreFresh, variable-below_in_order, HasStepAt-in_order}
use Rattle.cdcl_core.proofs.trail.Trail.step_at.Goals as goal

pub returns-then-place-len-clause-within : goal.returns-then-place-len-clause-within
returns-then-place-len-clause-within c =
    let place : c.args.place < length c.self.inside.steps.items = omega (arith, c.self.inside.steps.ok.0) in
    subst (λ n. c.index.result.now.literal.variable < n) (ap (λ (x : Course). x.variables) c.self.view_is)
    (subst (λ (s : Step). s.literal.variable < length c.self.inside.marks.items) (sym c.index.ensures)
    (variable-below_in_order _ c.self.inside.steps.items c.args.place c.index.result.now c.self.invariant.fresh place))

pub returns-then-place-len-clause-before : goal.returns-then-place-len-clause-before
returns-then-place-len-clause-before c = λ _.
    let fits : length (reverse c.self.inside.steps.items) ≤ length c.self.inside.marks.items = length-AreFresh _ _ c.self.invariant.fresh in
    omega (arith, fits, length-reverse c.self.inside.steps.items, ap (λ (x : Course). x.variables) c.self.view_is, c.self.inside.steps.ok.0)

pub returns-then-place-len-clause-limit : goal.returns-then-place-len-clause-limit
returns-then-place-len-clause-limit c = λ _.
    let fits : length (reverse c.self.inside.steps.items) ≤ length c.self.inside.marks.items = length-AreFresh _ _ c.self.invariant.fresh in
    omega (arith, fits, length-reverse c.self.inside.steps.items, c.self.invariant.limit, c.self.inside.steps.ok.0)

pub returns-then-place-len-clause-step : goal.returns-then-place-len-clause-step
returns-then-place-len-clause-step c =
    let place : c.args.place < length c.self.inside.steps.items = omega (arith, c.self.inside.steps.ok.0) in
    subst (λ (x : Course). oldest (suc c.args.place) x.steps ≡ c.index.result.now ∷ oldest c.args.place x.steps) c.self.view_is
    (HasStepAt-in_order c.args.place c.self.inside.steps.items c.index.result.now place c.index.ensures)
