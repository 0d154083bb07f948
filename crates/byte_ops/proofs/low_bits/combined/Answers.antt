use Rattle.std.proofs.Common.{ap, ◌∙◌, arith}
use Rattle.words.specs.Operators.{low_bits}
use Rattle.word_dag.specs.Meaning.{binary_value}
use Rattle.byte_ops.proofs.Lows.{low_sum, low_product}
use Rattle.byte_ops.proofs.low_bits.combined.Goals as goal

pub returns-in-Add-clause-low : goal.returns-in-Add-clause-low
returns-in-Add-clause-low c = λ w x y first second low_first low_second.
    ap (λ o. low_bits c.sum.result.count (binary_value o w x y)) c.in-Add.is ∙ low_sum c.sum.result.count w x y (omega (arith, c.sum.ensures.fewer, first)) ∙ c.sum.ensures.low x y low_first low_second

pub returns-in-Multiply-clause-low : goal.returns-in-Multiply-clause-low
returns-in-Multiply-clause-low c = λ w x y first second low_first low_second.
    ap (λ o. low_bits c.product.result.count (binary_value o w x y)) c.in-Multiply.is ∙ low_product c.product.result.count w x y (c.product.ensures.within w first second) ∙ c.product.ensures.low x y low_first low_second
