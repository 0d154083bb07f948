use Rattle.mem_seq.proofs.Learning.{deciding_more}
use Rattle.mem_seq.proofs.memory.decided.Goals as goal

pub loop-i-preserved : goal.loop-i-preserved
loop-i-preserved c = deciding_more c.args.dag.now c.args.guard c.args.ids.now c.loop-i.sides.items c.push.new.self.items c.side-id.result _ c.loop-i.i c.requires.ids c.loop-i.invariant c.loop-i-test.true c.side-id.ensures c.in_ok-push.ensures.items
