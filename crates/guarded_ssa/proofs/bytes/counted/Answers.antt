use Rattle.guarded_ssa.proofs.Numbering.{counted_more}
use Rattle.guarded_ssa.proofs.bytes.counted.Goals as goal

pub loop-k-preserved : goal.loop-k-preserved
loop-k-preserved c = counted_more c.loop-k.numbers.items _ _ _ _ c.loop-k-test.true c.in_ok-push.ensures.items c.loop-k.invariant
