use Rattle.std.proofs.Common.{take}
use Rattle.cdcl_core.specs.Learning.{IsClear}
use Rattle.cdcl_core.specs.Cuts.{IsReached, MarksClause, Reaches}
use Rattle.cdcl_core.proofs.analysis.Analysis.mark_clause.Given as goal

abbrev pub invariant-loop-literal : goal.invariant-loop-literal
invariant-loop-literal l = record {
  clear : IsClear l.trail.variables l.self;
  reached : IsReached l.trail.steps l.self;
  reaches : Reaches l.count l.fn.self l.self;
  marks : MarksClause l.trail.steps (take l.literal-index l.literal-items) l.count l.fn.self.marked.items l.self.marked.items;
}
