use Rattle.value_nodes.proofs.Made.{made_less}
use Rattle.value_nodes.proofs.numbers.less.Goals as goal

pub returns-clause-made : goal.returns-clause-made
returns-clause-made c = made_less c.args.dag.now _ c.args.a c.args.b _ c.args.type_ _ c.order-test.ensures c.requires.a c.in_ok-id.ensures.made
