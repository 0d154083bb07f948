use Rattle.goto_prog.proofs.Places.{landed_more}
use Rattle.goto_prog.proofs.cursor.Cursor.jump.Goals as goal

pub loop-preserved : goal.loop-preserved
loop-preserved c = rw c.pass.ensures (landed_more c.args.count c.loop.counter c.loop.self _ c.loop-test.true c.loop.invariant)
