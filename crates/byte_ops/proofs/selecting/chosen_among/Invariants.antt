use Rattle.byte_ops.proofs.Numbers.{Choosing}
use Rattle.byte_ops.proofs.selecting.chosen_among.Given as goal

abbrev pub invariant-loop-k : goal.invariant-loop-k
invariant-loop-k l = Choosing l.fn.dag l.dag l.block l.offset l.tests l.k l.limit l.n l.fn.other l.word
