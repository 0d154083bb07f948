use Rattle.std.proofs.Common.{◌≤◌, ap, length, reverse, arith}
use Rattle.std.proofs.lemmas.List.{length-reverse}
use Rattle.cdcl_core.specs.Steps.{Course}
use Rattle.cdcl_core.proofs.Courses.{length-AreFresh}
use Rattle.cdcl_core.proofs.trail.Trail.len.Goals as goal

pub returns-clause-most : goal.returns-clause-most
returns-clause-most c =
    let fits : length (reverse c.self.inside.steps.items) ≤ length c.self.inside.marks.items = length-AreFresh _ _ c.self.invariant.fresh in
    omega (arith, fits, length-reverse c.self.inside.steps.items, ap (λ (x : Course). x.variables) c.self.view_is, c.self.inside.steps.ok.0)
