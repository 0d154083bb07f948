use Rattle.object_memory.proofs.ReadWords.{Finding}
use Rattle.object_memory.proofs.reading.found_words.Given as goal

abbrev pub invariant-reading : goal.invariant-reading
invariant-reading l = Finding l.fn.dag l.dag l.guard l.places l.hits l.count l.words.items l.left

abbrev pub decreases-reading : goal.decreases-reading
decreases-reading l = l.left
