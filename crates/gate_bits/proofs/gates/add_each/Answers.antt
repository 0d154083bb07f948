use Rattle.gate_bits.proofs.Cells.{each_more}
use Rattle.gate_bits.proofs.gates.add_each.Goals as goal

pub loop-literal-preserved : goal.loop-literal-preserved
loop-literal-preserved c =
    each_more _ _ _ _ _ _ _ _ c.loop-literal-test.true c.literal-item.is c.inverse.ensures c.loop-literal.invariant c.in_ok-add.ensures.ok
