use Rattle.std.proofs.Common.{◌∙◌}
use Rattle.byte_ops.proofs.Lows.{low_bits_of_0}
use Rattle.byte_ops.proofs.low_bits.zeros.Goals as goal

pub returns-clause-zero : goal.returns-clause-zero
returns-clause-zero c = c.agreed.ensures.bits ∙ low_bits_of_0 c.agreed.result.count
