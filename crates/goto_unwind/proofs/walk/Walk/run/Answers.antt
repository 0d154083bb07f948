use Rattle.std.proofs.Common.{◌∙◌}
use Rattle.goto_unwind.proofs.WalkSums.{popped_outcome, popped_steps}
use Rattle.goto_unwind.proofs.walk.Walk.run.Goals as goal

pub calls-smaller : goal.calls-smaller
calls-smaller c = popped_steps c.calls.self c.pop.new.self c.step.new.self c.in-Some.visit c.in-Some.ensures.0 c.in-Some.ensures.1 c.in_ok-step-in-Some.ensures

pub calls-preserved : goal.calls-preserved
calls-preserved c = popped_outcome c.calls.self c.pop.new.self c.step.new.self c.in-Some.visit c.in-Some.ensures.0 c.in-Some.ensures.1 c.in_ok-step-in-Some.ensures ∙ c.calls.invariant
