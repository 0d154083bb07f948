use Rattle.mem_seq.proofs.Learning.{Deciding}
use Rattle.mem_seq.proofs.memory.decided.Given as goal

abbrev pub invariant-loop-i : goal.invariant-loop-i
invariant-loop-i l = Deciding l.dag l.guard l.ids l.sides.items l.i
