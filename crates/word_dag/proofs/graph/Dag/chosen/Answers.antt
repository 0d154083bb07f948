use Rattle.word_dag.proofs.Steps.{chosen_first, chosen_second}
use Rattle.word_dag.proofs.graph.Dag.chosen.Goals as goal

pub returns-then-bits-gt0-clause-made : goal.returns-then-bits-gt0-clause-made
returns-then-bits-gt0-clause-made c =
    chosen_first _ _ _ _ _ _ _ c.in-Choice.is c.requires c.in_ok-word-in-Choice.ensures.bits c.bits.ensures.value c.if-bits-gt0.true

pub returns-else-bits-gt0-clause-made : goal.returns-else-bits-gt0-clause-made
returns-else-bits-gt0-clause-made c =
    chosen_second _ _ _ _ _ _ _ c.in-Choice.is c.requires c.in_ok-word-in-Choice.ensures.bits c.bits.ensures.value c.if-bits-gt0.false
