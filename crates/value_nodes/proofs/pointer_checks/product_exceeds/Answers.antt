use Rattle.value_nodes.proofs.Reaching.{exceeds_by}
use Rattle.value_nodes.proofs.pointer_checks.product_exceeds.Goals as goal

pub returns-clause-made : goal.returns-clause-made
returns-clause-made c =
    exceeds_by c.args.dag.now _ _ _ _ _ _ c.args.a c.args.b _ _ _ _ _ _ c.args.most c.nodes.ensures.ordered c.requires.a c.requires.b c.ranges.most.fits c.in_ok-zero.ensures.extends c.in_ok-short.ensures.extends c.in_ok-few.ensures.extends c.in_ok-small.ensures.extends
    c.in_ok-zero.ensures.made c.in_ok-short.ensures.made c.in_ok-few.ensures.made c.in_ok-small.ensures.made c.in_ok-within.ensures.made c.in_ok-id.ensures.made
