use Rattle.byte_ops.proofs.Lows.{no_bits}
use Rattle.byte_ops.proofs.low_bits.nothing.Goals as goal

pub returns-clause-low : goal.returns-clause-low
returns-clause-low c = λ x. no_bits x
