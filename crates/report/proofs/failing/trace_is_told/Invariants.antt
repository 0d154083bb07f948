use Rattle.std.proofs.Common.{All}
use Rattle.report.specs.Report.{IsDrawn}
use Rattle.report.specs.Failing.{drew}
use Rattle.report.proofs.failing.trace_is_told.Given as goal

abbrev pub invariant-loop-thread : goal.invariant-loop-thread
invariant-loop-thread l = All IsDrawn (drew l.thread-iterator) → All IsDrawn (drew l.trace.inputs)
