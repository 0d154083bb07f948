use Rattle.object_memory.proofs.Pointed.{Hitting}
use Rattle.object_memory.proofs.finding.hits_of.Given as goal

abbrev pub invariant-loop-at : goal.invariant-loop-at
invariant-loop-at l = Hitting l.initial.dag l.dag l.places l.object l.offset l.hits.items l.at
