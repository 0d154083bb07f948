use Rattle.value_nodes.proofs.Checking.{made_left}
use Rattle.value_nodes.proofs.checks.left_shift_fails.Goals as goal

pub returns-clause-made : goal.returns-clause-made
returns-clause-made c =
    made_left c.args.dag.now _ _ _ _ _ c.args.type_ c.args.count_type _ c.args.a c.args.count _ _ _ _ _ c.width-width.ensures.is c.width-width.ensures.at_most_64 c.requires.signed c.nodes.ensures.ordered
    c.requires.a c.requires.count c.in_ok-small.ensures.extends c.in_ok-low.ensures.extends c.in_ok-within.ensures.extends c.in_ok-small.ensures.made c.in_ok-low.ensures.same c.in_ok-within.ensures.made
    c.in_ok-well.ensures.made c.in_ok-id.ensures.made
