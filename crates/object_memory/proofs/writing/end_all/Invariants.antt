use Rattle.object_memory.proofs.Puts.{Ending}
use Rattle.object_memory.proofs.writing.end_all.Given as goal

abbrev pub invariant-loop-k : goal.invariant-loop-k
invariant-loop-k l = Ending l.fn.dag l.dag l.fn.places.items l.hits l.guard l.places.items l.k
