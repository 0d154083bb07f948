use Rattle.std.proofs.Common.{◌≡◌, sym, ◌∙◌, arith}
use Rattle.cdcl_core.specs.Steps.{oldest}
use Rattle.cdcl_core.proofs.Courses.{oldest-all}
use Rattle.cdcl_core.proofs.trail.Trail.cut.Goals as goal

pub returns : goal.returns
returns c =
    let kept : c.loop-self.self.steps ≡ oldest c.args.count c.args.self.now.steps =
    sym (oldest-all c.args.count c.loop-self.self.steps (omega arith)) ∙ c.loop-self.invariant.1 in
    λ k. record { variables = c.loop-self.invariant.0 k; steps = kept k }
