use Rattle.object_memory.proofs.ReadWords.{Deciding}
use Rattle.object_memory.proofs.reading.decided.Given as goal

abbrev pub invariant-loop-i : goal.invariant-loop-i
invariant-loop-i l = Deciding l.dag l.guard l.ids l.sides.items l.i
