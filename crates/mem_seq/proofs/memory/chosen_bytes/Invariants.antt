use Rattle.mem_seq.proofs.Held.{Choosing}
use Rattle.mem_seq.proofs.memory.chosen_bytes.Given as goal

abbrev pub invariant-loop-i : goal.invariant-loop-i
invariant-loop-i l = Choosing l.fn.dag l.dag l.test l.first l.second l.ids.items l.i
