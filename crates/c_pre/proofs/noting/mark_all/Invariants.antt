use Rattle.std.proofs.Common.{length}
use Rattle.c_pre.specs.Known.{is_in, Precedes}
use Rattle.c_pre.proofs.Marked.{Marks}
use Rattle.c_pre.proofs.noting.mark_all.Given as goal

abbrev pub invariant-loop-token : goal.invariant-loop-token
invariant-loop-token l = record {
  marks : Marks l.bytes (is_in l.used.keys) l.body l.rest;
  others : Precedes l.fn.used.keys l.used.keys;
}

abbrev pub decreases-loop-token : goal.decreases-loop-token
decreases-loop-token l = length l.rest
