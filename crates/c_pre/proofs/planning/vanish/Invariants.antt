use Rattle.c_pre.specs.Known.{Learns}
use Rattle.c_pre.specs.Views.{macros_in}
use Rattle.c_pre.proofs.planning.vanish.Given as goal

abbrev pub invariant-loop : goal.invariant-loop
invariant-loop l = Learns l.bytes (macros_in l.macros.entries) l.fn.known l.known
