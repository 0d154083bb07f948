use Rattle.std.proofs.Common.{◌≡◌, ◌-◌, length}
use Rattle.goto_prog.specs.Running.{thread_of}
use Rattle.goto_prog.proofs.runner.Runner.settle.Given as goal

abbrev pub decreases-loop-next : goal.decreases-loop-next
decreases-loop-next l = length l.self.code.instructions - l.self.place

abbrev pub invariant-loop-next : goal.invariant-loop-next
invariant-loop-next l = thread_of l.self ≡ thread_of l.fn.self
