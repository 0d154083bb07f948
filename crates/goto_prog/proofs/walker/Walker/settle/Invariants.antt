use Rattle.std.proofs.Common.{◌≡◌}
use Rattle.goto_prog.specs.Walks.{thread_of, weight}
use Rattle.goto_prog.proofs.walker.Walker.settle.Given as goal

abbrev pub decreases-steps : goal.decreases-steps
decreases-steps l = weight l.self

abbrev pub invariant-steps : goal.invariant-steps
invariant-steps l = thread_of l.self ≡ thread_of l.fn.self
