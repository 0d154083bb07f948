use Rattle.std.proofs.Common.{◌∙◌}
use Rattle.c_interp.proofs.thread.Thread.settle.Goals as goal

pub returns-in_err-halt-clause-same : goal.returns-in_err-halt-clause-same
returns-in_err-halt-clause-same c = c.step.ensures.same ∙ c.steps.invariant

pub returns-in-Some-clause-same : goal.returns-in-Some-clause-same
returns-in-Some-clause-same c = c.step.ensures.same ∙ c.steps.invariant
