use Rattle.object_memory.proofs.ReadWords.{Choosing}
use Rattle.object_memory.proofs.reading.chosen_all.Given as goal

abbrev pub invariant-loop-i : goal.invariant-loop-i
invariant-loop-i l = Choosing l.fn.dag l.dag l.test l.first l.second l.ids.items l.i
