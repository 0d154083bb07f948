use Rattle.std.proofs.Common.{ℕ, nat_eq, ap, ◌∙◌, arith}
use Rattle.word_dag.proofs.Operations.{left_shift_fits_out}
use Rattle.word_dag.proofs.evaluate.left_shift_fits.Goals as goal

pub returns-else-bits-from : goal.returns-else-bits-from
returns-else-bits-from c =
    ap (λ (n : ℕ). nat_eq n 0) c.bits-else-bits-from.ensures.value
    ∙ left_shift_fits_out _ _ _ c.bits-else-bits-from.ensures.is_word.positive c.bits-else-bits-from.ensures.is_word.within (omega arith)
