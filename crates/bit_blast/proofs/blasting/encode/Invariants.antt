use Rattle.bit_blast.specs.Steps.{AreSteps}
use Rattle.bit_blast.proofs.blasting.encode.Given as goal

abbrev pub invariant-loop-place : goal.invariant-loop-place
invariant-loop-place l = AreSteps l.nodes l.marks l.variables l.fn.cnf l.place l.cnf l.literals
