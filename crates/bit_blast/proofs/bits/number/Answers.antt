use Rattle.bit_blast.proofs.Rearranging.{NumberTo-more, NumberTo-all}
use Rattle.bit_blast.proofs.bits.number.Goals as goal

pub loop-preserved : goal.loop-preserved
loop-preserved c = NumberTo-more _ _ _ _ _ _ _ c.loop.invariant c.known.ensures c.in_ok-push.ensures.items

pub returns : goal.returns
returns c = NumberTo-all _ _ _ _ _ _ _ c.loop.invariant c.loop-test.false c.loop.auto.counter-end c.requires c.new.ensures
