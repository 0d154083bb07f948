use Rattle.word_dag.proofs.Operations.{divisor_zero, zero_word, unsigned_divide_zero, signed_divide_zero, unsigned_remainder_by_zero, signed_remainder_by_zero}
use Rattle.word_dag.proofs.evaluate.binary.Goals as goal

pub returns-else-divides : goal.returns-else-divides
returns-else-divides c =
    zero_word _ _ _ _ c.new-zero.ensures.value c.width.ensures.value
    (unsigned_divide_zero _ _ _ _ c.in-UnsignedDivide.is (divisor_zero _ _ c.if-divides.false c.bits-divides.ensures.value))

pub returns-else-divides-2 : goal.returns-else-divides-2
returns-else-divides-2 c =
    zero_word _ _ _ _ c.new-zero.ensures.value c.width.ensures.value
    (signed_divide_zero _ _ _ _ c.in-SignedDivide.is c.width.ensures.is_word.positive (divisor_zero _ _ c.if-divides-2.false c.bits-divides.ensures.value))

pub returns-else-divides-3 : goal.returns-else-divides-3
returns-else-divides-3 c =
    zero_word _ _ _ _ c.new-zero.ensures.value c.width.ensures.value
    (unsigned_remainder_by_zero _ _ _ _ c.in-UnsignedRemainder.is (divisor_zero _ _ c.if-divides-3.false c.bits-divides.ensures.value))

pub returns-else-divides-4 : goal.returns-else-divides-4
returns-else-divides-4 c =
    zero_word _ _ _ _ c.new-zero.ensures.value c.width.ensures.value
    (signed_remainder_by_zero _ _ _ _ c.in-SignedRemainder.is (divisor_zero _ _ c.if-divides-4.false c.bits-divides.ensures.value))
