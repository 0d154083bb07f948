use Rattle.std.proofs.Common.{take}
use Rattle.core_tree.specs.Ranges.{loop_limits}
use Rattle.options.proofs.Once.{Seen}
use Rattle.options.proofs.loops.once.Given as goal

abbrev pub invariant-loop-bound : goal.invariant-loop-bound
invariant-loop-bound l = Seen l.seen.keys (loop_limits (take l.bound-index l.bounds))
