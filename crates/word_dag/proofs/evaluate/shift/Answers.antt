use Rattle.std.proofs.Common.{arith}
use Rattle.word_dag.proofs.Operations.{zero_word, shift_out}
use Rattle.word_dag.proofs.evaluate.shift.Goals as goal

pub returns-then-bits-from : goal.returns-then-bits-from
returns-then-bits-from c =
    zero_word _ _ _ _ c.new.ensures.value c.width-width.ensures.value (shift_out _ _ _ _ c.width-width.ensures.is_word.within (omega arith))
