use Rattle.std.proofs.Common.{arith}
use Rattle.object_memory.proofs.Puts.{ending_more, ending_all}
use Rattle.object_memory.proofs.writing.end_all.Goals as goal

pub loop-k-preserved : goal.loop-k-preserved
loop-k-preserved c =
    ending_more c.args.dag.now c.loop-k.dag c.end_at.new.dag c.args.places.now.items c.loop-k.places.items c.end_at.new.places.items c.args.hits.now c.args.guard _ c.loop-k.k c.requires.hits c.requires.guard c.loop-k.invariant c.loop-k-test.true c.end_at.ensures.extends c.in_ok-end_at.ensures.within c.end_at.ensures.size
    c.in_ok-end_at.ensures.spots

pub returns-clause-spots : goal.returns-clause-spots
returns-clause-spots c = ending_all c.args.dag.now c.loop-k.dag c.args.places.now.items c.loop-k.places.items c.args.hits.now c.args.guard c.loop-k.k (omega arith) c.loop-k.invariant
