use Rattle.std.proofs.Common.{arith}
use Rattle.object_memory.proofs.Starts.{constants_more, constants_all}
use Rattle.object_memory.proofs.making.constants.Goals as goal

pub loop-i-preserved : goal.loop-i-preserved
loop-i-preserved c = constants_more c.args.dag.now c.loop-i.dag c.make.new.self c.args.bytes.now c.loop-i.ids.items c.push.new.self.items c.in_ok-id.id c.loop-i.i _ c.loop-i.invariant c.loop-i-test.true c.make.ensures.extends c.in_ok-id.ensures.made c.in_ok-push.ensures.items

pub returns-clause-values : goal.returns-clause-values
returns-clause-values c = constants_all c.args.dag.now c.loop-i.dag c.args.bytes.now c.loop-i.ids.items c.loop-i.i (omega arith) c.loop-i.invariant
