use Rattle.value_nodes.proofs.Halves.{made_sum}
use Rattle.value_nodes.proofs.pointers.sum.Goals as goal

pub returns-clause-made : goal.returns-clause-made
returns-clause-made c = made_sum c.args.dag.now _ c.args.a c.args.b _ c.requires.a c.in_ok-id.ensures.made
