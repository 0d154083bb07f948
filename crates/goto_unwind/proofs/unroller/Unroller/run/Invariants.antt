use Rattle.std.proofs.Common.{◌≡◌}
use Rattle.goto_unwind.specs.Unroller.{making, outcome, weight}
use Rattle.goto_unwind.proofs.unroller.Unroller.run.Given as goal

abbrev pub decreases-levels : goal.decreases-levels
decreases-levels l = weight (making l.self)

abbrev pub invariant-levels : goal.invariant-levels
invariant-levels l = outcome (making l.self) ≡ outcome (making l.fn.self)
