use Rattle.std.proofs.Common.{◌≡◌, ◌≤◌, ◌+◌, drop}
use Rattle.interleave.specs.View.{world_of}
use Rattle.interleave.specs.Run.{run}
use Rattle.c_interp.specs.View.{thread_of}
use Rattle.c_interp.specs.Alone.{IsAlone, made_in}
use Rattle.c_interp.proofs.replay.take_turns.Given as goal

abbrev pub invariant-loop-t : goal.invariant-loop-t
invariant-loop-t l =
    IsAlone (world_of thread_of l.system) × (made_in (world_of thread_of l.system) ≤ made_in (world_of thread_of l.initial.system) + l.t-index)
    × ((run (world_of thread_of l.system) l.inputs (drop l.t-index l.schedule)).0 ≡ (run (world_of thread_of l.initial.system) l.inputs l.schedule).0)
