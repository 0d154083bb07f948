use Rattle.std.proofs.Common.{◌≡◌}
use Rattle.c_interp.specs.Work.{weight}
use Rattle.c_interp.specs.View.{code_under, state_of, thread_of}
use Rattle.c_interp.proofs.thread.Thread.settle.Given as goal

abbrev pub invariant-steps : goal.invariant-steps
invariant-steps l = thread_of l.self ≡ thread_of l.initial.self

abbrev pub decreases-steps : goal.decreases-steps
decreases-steps l = weight (code_under l.self) (state_of l.self)
