use Rattle.value_nodes.proofs.Checking.{made_count}
use Rattle.value_nodes.proofs.checks.count_fails.Goals as goal

pub returns-clause-made : goal.returns-clause-made
returns-clause-made c =
    made_count c.args.dag.now _ _ c.args.type_ c.args.count_type _ c.args.count _ _ c.width.ensures.is c.width.ensures.at_most_64 c.nodes.ensures.ordered c.requires.count
    c.in_ok-small.ensures.made c.in_ok-id.ensures.made
