use Rattle.bit_blast.proofs.Rearranging.{NumberTo}
use Rattle.bit_blast.proofs.bits.number.Given as goal

abbrev pub invariant-loop : goal.invariant-loop
invariant-loop l = NumberTo l.fn.bits l.counter l.rest l.fn.one l.literals.items
