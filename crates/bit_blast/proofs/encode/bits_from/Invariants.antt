use Rattle.bit_blast.proofs.Gathering.{Gathered}
use Rattle.bit_blast.proofs.encode.bits_from.Given as goal

abbrev pub invariant-loop-at : goal.invariant-loop-at
invariant-loop-at l = Gathered l.lists l.first l.at l.literals.items
