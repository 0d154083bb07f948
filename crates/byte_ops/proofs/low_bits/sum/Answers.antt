use Rattle.std.proofs.Common.{◌+◌, refl, sym, ap, ◌∙◌, arith}
use Rattle.words.specs.Operators.{low_bits}
use Rattle.byte_ops.proofs.Lows.{rest_of, sum_bits}
use Rattle.byte_ops.proofs.low_bits.sum.Goals as goal

pub returns-clause-low : goal.returns-clause-low
returns-clause-low c = λ x y first second.
    sum_bits c.min-count.result c.shortened-first.result.bits c.shortened-second.result.bits x y
    (ap (λ k. low_bits k x) (sym c.shortened-first.ensures.count) ∙ c.shortened-first.ensures.low x first)
    (ap (λ k. low_bits k y) (sym c.shortened-second.ensures.count) ∙ c.shortened-second.ensures.low y second)
    ∙ sym (rest_of c.min-count.result _ (c.shortened-first.result.bits + c.shortened-second.result.bits) refl (omega (arith, c.min-count.ensures, c.requires.first)))
