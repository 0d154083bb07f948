use Rattle.byte_ops.proofs.Lows.{Agreeing}
use Rattle.byte_ops.proofs.low_bits.agreed.Given as goal

abbrev pub invariant-longer : goal.invariant-longer
invariant-longer l = Agreeing l.a l.b l.found
