use Rattle.std.proofs.Common.{◌≡◌, ◌≤◌, reverse}
use Rattle.cdcl_core.specs.Learning.{IsClear}
use Rattle.cdcl_core.specs.Cuts.{IsCut, IsReached}
use Rattle.cdcl_core.proofs.analysis.Analysis.resolve_newest.Given as goal

abbrev pub invariant-loop-self : goal.invariant-loop-self
invariant-loop-self l = record {
  clear : IsClear l.trail.variables l.self;
  reached : IsReached l.trail.steps l.self;
  first : l.self.first ≡ l.fn.self.first;
  newest : l.self.newest ≡ l.fn.self.newest;
  low : l.self.low ≤ l.fn.self.low;
  cut : IsCut l.clauses l.trail.steps l.self.high l.self.marked.items (reverse l.numbers.items);
}

abbrev pub decreases-loop-self : goal.decreases-loop-self
decreases-loop-self l = l.self.high
