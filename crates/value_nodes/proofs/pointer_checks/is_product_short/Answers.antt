use Rattle.std.proofs.Common.{arith}
use Rattle.value_nodes.proofs.Reaching.{short_always, short_by}
use Rattle.value_nodes.proofs.pointer_checks.is_product_short.Goals as goal

pub returns-then-factor-lt2-clause-made : goal.returns-then-factor-lt2-clause-made
returns-then-factor-lt2-clause-made c = short_always c.args.dag.now _ c.args.a _ c.args.factor c.nodes.ensures.ordered c.requires (omega (arith, c.if-factor-lt2.true)) c.in_ok-id.ensures.made

pub returns-clause-made : goal.returns-clause-made
returns-clause-made c =
    short_by c.args.dag.now _ _ c.args.a _ _ c.args.factor c.make.ensures.extends c.requires (omega (arith, c.if-factor-lt2.false)) (record { there = c.in_ok-limit.ensures.made.there; width_is = c.in_ok-limit.ensures.made.width_is; value_is = c.in_ok-limit.ensures.made.value_is }) c.in_ok-id-2.ensures.made
