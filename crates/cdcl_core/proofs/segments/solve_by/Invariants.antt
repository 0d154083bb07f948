use Rattle.std.proofs.Common.{◌<◌, ◌-◌}
use Rattle.cdcl_core.specs.SegmentEnds.{IsHistory}
use Rattle.cdcl_core.proofs.segments.solve_by.Given as goal

abbrev pub invariant-loop-history : goal.invariant-loop-history
invariant-loop-history g l = record {
  history : IsHistory l.cnf l.clauses l.history;
  room : l.history.next - l.history.first < l.budget;
}

abbrev pub decreases-loop-history : goal.decreases-loop-history
decreases-loop-history g l = l.budget - (l.history.next - l.history.first)
