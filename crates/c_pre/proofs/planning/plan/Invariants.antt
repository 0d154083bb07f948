use Rattle.std.proofs.Common.{length}
use Rattle.c_pre.specs.Known.{Learns}
use Rattle.c_pre.specs.Views.{macros_in}
use Rattle.c_pre.proofs.planning.plan.Given as goal

abbrev pub invariant-loop-last : goal.invariant-loop-last
invariant-loop-last l = Learns l.bytes (macros_in l.macros.entries) l.fn.known l.known

abbrev pub decreases-loop-last : goal.decreases-loop-last
decreases-loop-last l = length l.names.keys
