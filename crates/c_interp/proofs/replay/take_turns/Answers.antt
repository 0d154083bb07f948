use Rattle.std.proofs.Common.{◌≤◌, ◌+◌, sym, ◌∙◌, arith, rules}
use Rattle.interleave.specs.View.{world_of}
use Rattle.c_interp.specs.View.{thread_of}
use Rattle.c_interp.specs.Alone.{IsAlone, made_in}
use Rattle.c_interp.proofs.SourceRuns.{moved_run}
use Rattle.c_interp.proofs.replay.take_turns.Goals as goal

pub loop-t-preserved : goal.loop-t-preserved
loop-t-preserved c =
    let next = world_of thread_of c.take_turn.new.system in
    let q : IsAlone next = search rules in
    let m : made_in next ≤ made_in (world_of thread_of c.loop-t.system) + 1 = search rules in
    let e = moved_run (world_of thread_of c.loop-t.system) next c.args.inputs.now c.args.schedule.now c.loop-t.t-index (omega arith) (search rules) in
    (q, omega (arith, m, c.loop-t.invariant.1), sym e ∙ c.loop-t.invariant.2)
