use Rattle.std.proofs.Common.{arith}
use Rattle.properties.proofs.Behind.{by_enumerator, enumerators_in_turn, one_more, at_end}
use Rattle.properties.proofs.declarations.push_enumerators.Goals as goal

pub loop-enumerator-preserved : goal.loop-enumerator-preserved
loop-enumerator-preserved c =
    one_more by_enumerator _ _ _ c.args.enumerators.now c.loop-enumerator.enumerator-index c.enumerator-item.result (omega arith) c.loop-enumerator.invariant c.enumerator-item.is c.in_ok-push_value.ensures

pub returns : goal.returns
returns c = at_end by_enumerator _ _ _ c.args.enumerators.now c.loop-enumerator.enumerator-index c.loop-enumerator-test.false c.loop-enumerator.invariant (enumerators_in_turn _ c.args.enumerators.now)
