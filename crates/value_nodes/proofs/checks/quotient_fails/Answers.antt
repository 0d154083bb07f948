use Rattle.value_nodes.proofs.Checking.{made_quotient}
use Rattle.value_nodes.proofs.checks.quotient_fails.Goals as goal

pub returns-clause-made : goal.returns-clause-made
returns-clause-made c =
    made_quotient c.args.dag.now _ _ _ c.args.type_ _ c.args.a c.args.b _ _ _ c.width-width.ensures.is c.requires.signed c.requires.b c.in_ok-least.ensures.extends c.in_ok-minus_one.ensures.extends
    c.in_ok-least.ensures.made c.in_ok-minus_one.ensures.made c.in_ok-id.ensures.made
