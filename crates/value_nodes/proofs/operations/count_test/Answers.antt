use Rattle.value_nodes.proofs.Shifting.{made_below}
use Rattle.value_nodes.proofs.operations.count_test.Goals as goal

pub returns-clause-made : goal.returns-clause-made
returns-clause-made c = made_below c.args.dag.now _ _ c.args.count _ _ _ c.args.width c.in_ok-limit.ensures.extends c.requires.count c.in_ok-limit.ensures.made.value_is c.in_ok-id.ensures.made
