use Rattle.std.proofs.Common.{arith}
use Rattle.object_memory.proofs.Puts.{changing_more, changing_all}
use Rattle.object_memory.proofs.writing.write_all.Goals as goal

pub loop-k-preserved : goal.loop-k-preserved
loop-k-preserved c =
    changing_more c.args.dag.now c.loop-k.dag c.write_at.new.dag c.args.places.now.items c.loop-k.places.items c.write_at.new.places.items c.args.hits.now c.args.guard c.args.bytes.now _ c.loop-k.k c.requires.hits c.requires.guard c.requires.bytes c.loop-k.invariant c.loop-k-test.true c.write_at.ensures.extends
    c.in_ok-write_at.ensures.within c.write_at.ensures.size c.in_ok-write_at.ensures.spots

pub returns-clause-spots : goal.returns-clause-spots
returns-clause-spots c = changing_all c.args.dag.now c.loop-k.dag c.args.places.now.items c.loop-k.places.items c.args.hits.now c.args.guard c.args.bytes.now c.loop-k.k (omega arith) c.loop-k.invariant
