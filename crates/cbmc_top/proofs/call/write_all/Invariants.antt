use Rattle.std.proofs.Common.{◌≡◌, ◌≤◌, length}
use Rattle.cbmc_top.specs.Writing.{IsWriting}
use Rattle.cbmc_top.proofs.call.write_all.Given as goal

abbrev pub invariant-writing : goal.invariant-writing
invariant-writing g l = record {
  same : g.K.Sink.faults l.out ≡ g.K.Sink.faults l.initial.out;
  later : g.K.Sink.faults l.initial.out ≤ g.K.Sink.faults l.out;
  writing : IsWriting (g.K.Sink.taken l.initial.out) (g.K.Sink.taken l.out) l.text l.rest;
}

abbrev pub decreases-writing : goal.decreases-writing
decreases-writing g l = length l.rest
