use Rattle.value_nodes.proofs.Reaching.{distance_by}
use Rattle.value_nodes.proofs.pointer_checks.distance_from_0.Goals as goal

pub returns-clause-made : goal.returns-clause-made
returns-clause-made c =
    distance_by c.args.dag.now _ _ c.args.type_ c.args.a c.args.negative _ _ c.nodes.ensures.ordered c.requires.a c.in_ok-wide.ensures.extends c.requires.negative c.in_ok-wide.ensures.made c.in_ok-id.ensures.made
