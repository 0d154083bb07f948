use Rattle.bit_blast.proofs.Marked.{MarkedTo}
use Rattle.bit_blast.proofs.marks.marks_of.Given as goal

abbrev pub invariant-loop-place : goal.invariant-loop-place
invariant-loop-place l = MarkedTo l.nodes l.fn.goal.index l.place l.marks.items
