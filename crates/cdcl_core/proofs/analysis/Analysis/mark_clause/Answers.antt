use Rattle.cdcl_core.proofs.Marking.{MarksClause-more, Reaches-trans}
use Rattle.cdcl_core.proofs.analysis.Analysis.mark_clause.Goals as goal

pub loop-literal-preserved : goal.loop-literal-preserved
loop-literal-preserved c = record {
  clear = c.in_ok-mark_literal.ensures.clear;
  reached = c.in_ok-mark_literal.ensures.reached;
  reaches = Reaches-trans c.args.count c.args.self.now c.loop-literal.self c.mark_literal.new.self c.loop-literal.invariant.reaches c.in_ok-mark_literal.ensures.reaches;
  marks = MarksClause-more c.args.trail.now.steps c.literals-literal-items.result.now c.loop-literal.literal-index c.literal-item.result c.args.count
      c.args.self.now.marked.items c.loop-literal.self.marked.items c.mark_literal.new.self.marked.items c.loop-literal-test.true c.literal-item.is
      c.loop-literal.invariant.marks c.in_ok-mark_literal.ensures.marks;
}
