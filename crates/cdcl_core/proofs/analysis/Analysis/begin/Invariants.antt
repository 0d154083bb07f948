use Rattle.std.proofs.Common.{◌≡◌, length, vec_len}
use Rattle.cdcl_core.specs.Learning.{AreTouched}
use Rattle.cdcl_core.proofs.analysis.Analysis.begin.Given as goal

abbrev pub invariant-loop-variable : goal.invariant-loop-variable
invariant-loop-variable l =
    (length l.self.marked.items ≡ length l.fn.self.marked.items)
    × AreTouched l.self.marked.items l.self.touched.items
    × (l.self.first ≡ l.first) × (l.self.newest ≡ l.newest) × (l.self.low ≡ l.count) × (l.self.high ≡ l.count) × (l.self.bottom ≡ l.first) × (l.self.top ≡ 0)

abbrev pub decreases-loop-variable : goal.decreases-loop-variable
decreases-loop-variable l = vec_len l.self.touched
