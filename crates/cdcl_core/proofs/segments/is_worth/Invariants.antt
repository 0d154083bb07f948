use Rattle.std.proofs.Common.{◌≤◌}
use Rattle.cdcl_core.proofs.segments.is_worth.Given as goal

abbrev pub invariant-loop-mark : goal.invariant-loop-mark
invariant-loop-mark l = l.count ≤ l.mark-index
