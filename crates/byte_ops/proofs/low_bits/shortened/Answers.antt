use Rattle.std.proofs.Common.{refl, arith}
use Rattle.byte_ops.proofs.Lows.{rest_of, low_bits_small, fewer_bits}
use Rattle.byte_ops.proofs.low_bits.shortened.Goals as goal

pub returns-clause-bits : goal.returns-clause-bits
returns-clause-bits c = rest_of c.args.count _ c.args.known.bits refl (omega (arith, c.requires.fewer, c.requires.few))

pub returns-clause-small : goal.returns-clause-small
returns-clause-small c = omega (arith, rest_of c.args.count _ c.args.known.bits refl (omega (arith, c.requires.fewer, c.requires.few)), low_bits_small c.args.count c.args.known.bits (omega (arith, c.requires.fewer, c.requires.few)))

pub returns-clause-low : goal.returns-clause-low
returns-clause-low c = λ x is. fewer_bits c.args.known _ x c.requires.fewer (rest_of c.args.count _ c.args.known.bits refl (omega (arith, c.requires.fewer, c.requires.few))) is
