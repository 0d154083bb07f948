use Rattle.mem_seq.proofs.Learning.{Imaging}
use Rattle.mem_seq.proofs.replacing.images.Given as goal

abbrev pub invariant-loop-i : goal.invariant-loop-i
invariant-loop-i l = Imaging l.fn.dag l.dag l.fn.known l.known l.ids l.images.items l.i
