use Rattle.object_memory.proofs.Starts.{Starting}
use Rattle.object_memory.proofs.memory.Memory.first.Given as goal

abbrev pub invariant-loop-at : goal.invariant-loop-at
invariant-loop-at l = Starting l.fn.dag l.dag l.store l.places.items l.at
