use Rattle.std.proofs.Common.{ℕ, get_or, ap, ◌∙◌, arith}
use Rattle.std.specs.Prelude.{List}
use Rattle.word_dag.specs.Fitting.{is_ordered}
use Rattle.bit_blast.proofs.Widths.{width_short}
use Rattle.bit_blast.proofs.blasting.begin.Goals as goal

pub fresh_lists-requires : goal.fresh_lists-requires
fresh_lists-requires c = λ k. omega (arith, ap (λ (ws : List ℕ). get_or ws k 0) c.deref.ensures.value ∙ c.in_ok-widths.ensures k, width_short c.nodes.result.now k (ap is_ordered c.nodes.ensures.is ∙ c.nodes.ensures.ordered))
