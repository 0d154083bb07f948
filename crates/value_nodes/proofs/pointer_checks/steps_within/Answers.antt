use Rattle.value_nodes.proofs.Reaching.{steps_by}
use Rattle.value_nodes.proofs.pointer_checks.steps_within.Goals as goal

pub returns-clause-made : goal.returns-clause-made
returns-clause-made c =
    steps_by c.args.dag.now _ _ _ _ c.args.back c.args.offset c.args.count c.args.size _ _ _ _ c.args.factor c.requires.back c.requires.offset c.requires.count c.requires.size c.in_ok-short.ensures.extends c.in_ok-distance.ensures.extends c.in_ok-within.ensures.extends
    c.in_ok-short.ensures.made c.in_ok-distance.ensures.made c.in_ok-within.ensures.made c.in_ok-id.ensures.made
