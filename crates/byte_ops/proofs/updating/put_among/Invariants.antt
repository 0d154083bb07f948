use Rattle.byte_ops.proofs.Writing.{Putting}
use Rattle.byte_ops.proofs.updating.put_among.Given as goal

abbrev pub invariant-loop-k : goal.invariant-loop-k
invariant-loop-k l = Putting l.fn.dag l.dag l.fn.block.items l.bytes l.block.items l.offset l.tests l.k l.limit
