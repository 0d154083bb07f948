use Rattle.object_memory.proofs.Broken.{Asking}
use Rattle.object_memory.proofs.breaking.answer.Given as goal

abbrev pub invariant-asking : goal.invariant-asking
invariant-asking l = Asking l.fn.dag l.dag l.question l.places l.hits l.id l.left

abbrev pub decreases-asking : goal.decreases-asking
decreases-asking l = l.left
