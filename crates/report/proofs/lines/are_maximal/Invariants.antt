use Rattle.std.proofs.Common.{◌≢◌, ◌<◌, ℕ, suc, get_or}
use Rattle.report.specs.declared.failing.Row.{Row}
use Rattle.report.proofs.lines.are_maximal.Given as goal

abbrev pub invariant-loop-at : goal.invariant-loop-at
invariant-loop-at l = (d : Row) (k : ℕ) → suc k < l.at → (get_or l.rows k d).thread ≢ (get_or l.rows (suc k) d).thread
