use Rattle.std.proofs.Common.{◌≡◌}
use Rattle.goto_unwind.specs.Linear.{outcome, steps_left}
use Rattle.goto_unwind.proofs.walk.Walk.run.Given as goal

abbrev pub decreases-calls : goal.decreases-calls
decreases-calls l = steps_left l.self

abbrev pub invariant-calls : goal.invariant-calls
invariant-calls l = outcome l.self ≡ outcome l.fn.self
