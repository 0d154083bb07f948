use Rattle.c_pre.specs.Known.{fates_in, ToldBelow, Learns}
use Rattle.c_pre.specs.Views.{macros_in}
use Rattle.c_pre.proofs.planning.finish.Given as goal

abbrev pub invariant-loop-index : goal.invariant-loop-index
invariant-loop-index l = record {
  learns : Learns l.bytes (macros_in l.macros.entries) l.fn.known l.known;
  told : ToldBelow (macros_in l.macros.entries) (fates_in l.known.fates.entries) l.known.used.keys l.index;
}
