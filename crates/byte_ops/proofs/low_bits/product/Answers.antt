use Rattle.std.proofs.Common.{sym, ◌∙◌}
use Rattle.byte_ops.proofs.Lows.{first_factor, second_factor}
use Rattle.byte_ops.proofs.low_bits.product.Goals as goal

pub returns-then-first-second-clause-low : goal.returns-then-first-second-clause-low
returns-then-first-second-clause-low c = λ x y first second.
    second_factor c.zeros-second.result.count x y (c.zeros-second.ensures.low y second ∙ c.zeros-second.ensures.zero) ∙ sym c.zeros-second.ensures.zero

pub returns-else-first-second-clause-low : goal.returns-else-first-second-clause-low
returns-else-first-second-clause-low c = λ x y first second.
    first_factor c.zeros-first.result.count x y (c.zeros-first.ensures.low x first ∙ c.zeros-first.ensures.zero) ∙ sym c.zeros-first.ensures.zero
