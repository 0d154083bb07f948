use Rattle.std.proofs.Common.{refl, sym, arith}
use Rattle.byte_ops.proofs.Lows.{rest_of}
use Rattle.byte_ops.proofs.low_bits.lowest.Goals as goal

pub returns-clause-low : goal.returns-clause-low
returns-clause-low c = sym (rest_of c.min-count.result _ c.args.bits refl (omega (arith, c.min-count.ensures)))
