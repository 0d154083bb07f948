use Rattle.value_nodes.proofs.Shifting.{made_low}
use Rattle.value_nodes.proofs.operations.count_word.Goals as goal

pub returns-then-width-count_width-clause-same : goal.returns-then-width-count_width-clause-same
returns-then-width-count_width-clause-same c = λ v h. made_low c.args.dag.now _ c.args.count _ c.args.width v c.in_ok-id.ensures.made h
