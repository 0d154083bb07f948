use Rattle.std.proofs.Common.{length}
use Rattle.report.specs.Told.{parts_of}
use Rattle.report.proofs.Reached.{Reached}
use Rattle.report.proofs.reading.read_trace.Given as goal

abbrev pub invariant-lines : goal.invariant-lines
invariant-lines l = Reached l.text l.rest l.number l.place (parts_of l.told)

abbrev pub decreases-lines : goal.decreases-lines
decreases-lines l = length l.rest
