use Rattle.value_nodes.proofs.Reaching.{on_by}
use Rattle.value_nodes.proofs.pointer_checks.goes_on.Goals as goal

pub returns-clause-made : goal.returns-clause-made
returns-clause-made c =
    on_by c.args.dag.now _ _ _ _ c.args.offset c.args.distance c.args.size _ _ _ _ c.nodes.ensures.ordered c.requires.offset c.requires.distance c.requires.size c.in_ok-first.ensures.extends c.in_ok-rest.ensures.extends c.in_ok-second.ensures.extends
    c.in_ok-first.ensures.made c.in_ok-rest.ensures.made c.in_ok-second.ensures.made c.in_ok-id.ensures.made
