use Rattle.std.proofs.Common.{◌≡◌, ◌++◌, ℕ, ◌<◌, List, None, get_or}
use Rattle.sat_form.specs.Satisfaction.{Literal}
use Rattle.cdcl_core.specs.Steps.{known_value}
use Rattle.cdcl_core.specs.Cuts.{IsOn, TakesMarks}
use Rattle.cdcl_core.proofs.analysis.take_clause.Given as goal

abbrev pub invariant-loop-variable : goal.invariant-loop-variable
invariant-loop-variable l = record {
  takes : TakesMarks l.trail.steps l.fn.marked.items l.marked.items l.clause;
  more : (back : List Literal) × (l.clause ≡ l.initial.clause ++ back);
  off : (k : ℕ) → k < l.variable-index → IsOn l.marked.items (get_or l.touched k 0) → known_value l.trail.steps (get_or l.touched k 0) ≡ None;
}
