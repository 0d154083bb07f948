use Rattle.std.proofs.Common.{length}
use Rattle.c_pre.specs.Known.{fates_in, Learns}
use Rattle.c_pre.specs.Views.{macros_in}
use Rattle.c_pre.proofs.Told.{Tells}
use Rattle.c_pre.proofs.planning.plan_text.Given as goal

abbrev pub invariant-loop-token : goal.invariant-loop-token
invariant-loop-token l = record {
  learns : Learns l.bytes (macros_in l.macros.entries) l.fn.known l.known;
  tells : Tells l.bytes (macros_in l.macros.entries) (fates_in l.known.fates.entries) l.text l.rest;
}

abbrev pub decreases-loop-token : goal.decreases-loop-token
decreases-loop-token l = length l.rest
