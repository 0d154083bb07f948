use Rattle.std.proofs.Common.{◌≡◌, ◌≤◌, suc, reverse}
use Rattle.cdcl_core.specs.Learning.{IsClear}
use Rattle.cdcl_core.specs.Cuts.{IsCut, IsReached}
use Rattle.cdcl_core.proofs.analysis.Analysis.minimise.Given as goal

abbrev pub invariant-loop-place : goal.invariant-loop-place
invariant-loop-place l = record {
  clear : IsClear l.trail.variables l.self;
  reached : IsReached l.trail.steps l.self;
  first : l.self.first ≡ l.fn.self.first;
  newest : l.self.newest ≡ l.fn.self.newest;
  low : l.self.low ≤ l.fn.self.low;
  least : l.self.first ≤ l.bound;
  most : l.bound ≤ l.self.newest;
  cut : IsCut l.clauses l.trail.steps l.bound l.self.marked.items (reverse l.numbers.items);
  single : l.self.high ≤ suc l.self.low;
}
