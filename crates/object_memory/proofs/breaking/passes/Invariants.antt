use Rattle.object_memory.proofs.Broken.{Passing}
use Rattle.object_memory.proofs.breaking.passes.Given as goal

abbrev pub invariant-passing : goal.invariant-passing
invariant-passing l = Passing l.fn.dag l.dag l.fn.guard l.breaks l.id l.left

abbrev pub decreases-passing : goal.decreases-passing
decreases-passing l = l.left
