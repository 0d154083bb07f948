use Rattle.std.proofs.Common.{arith}
use Rattle.object_memory.proofs.ReadWords.{deciding_more, deciding_values}
use Rattle.object_memory.proofs.reading.decided.Goals as goal

pub loop-i-preserved : goal.loop-i-preserved
loop-i-preserved c = deciding_more c.args.dag.now c.args.guard c.args.ids.now c.loop-i.sides.items c.push.new.self.items c.side-id.result _ c.loop-i.i c.requires.ids c.loop-i.invariant c.loop-i-test.true c.side-id.ensures c.in_ok-push.ensures.items

pub returns-clause-values : goal.returns-clause-values
returns-clause-values c = deciding_values c.args.dag.now c.args.guard c.args.ids.now c.loop-i.sides.items c.loop-i.i (omega arith) c.loop-i.invariant
