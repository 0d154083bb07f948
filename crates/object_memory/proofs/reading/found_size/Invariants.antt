use Rattle.object_memory.proofs.ReadWords.{Sizing}
use Rattle.object_memory.proofs.reading.found_size.Given as goal

abbrev pub invariant-looking : goal.invariant-looking
invariant-looking l = Sizing l.fn.dag l.dag l.places l.hits l.size l.left

abbrev pub decreases-looking : goal.decreases-looking
decreases-looking l = l.left
