use Rattle.std.proofs.Common.{◌≡◌, length}
use Rattle.cdcl_core.specs.Steps.{oldest}
use Rattle.cdcl_core.proofs.trail.Trail.cut.Given as goal

abbrev pub invariant-loop-self : goal.invariant-loop-self
invariant-loop-self l =
    (l.self.variables ≡ l.fn.self.variables) × (oldest l.count l.self.steps ≡ oldest l.count l.fn.self.steps)

abbrev pub decreases-loop-self : goal.decreases-loop-self
decreases-loop-self l = length l.self.steps
