use Rattle.object_memory.proofs.Puts.{Changing}
use Rattle.object_memory.proofs.writing.write_all.Given as goal

abbrev pub invariant-loop-k : goal.invariant-loop-k
invariant-loop-k l = Changing l.fn.dag l.dag l.fn.places.items l.hits l.guard l.bytes l.places.items l.k
