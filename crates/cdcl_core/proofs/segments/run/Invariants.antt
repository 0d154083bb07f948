use Rattle.cdcl_core.specs.Answers.{IsReady, IsAt, left}
use Rattle.cdcl_core.proofs.segments.run.Given as goal

abbrev pub invariant-loop-search : goal.invariant-loop-search
invariant-loop-search g l = IsReady (record { variables = l.fn.variables; clauses = l.fn.clauses }) l.budget l.search × IsAt l.search l.conflict

abbrev pub decreases-loop-search : goal.decreases-loop-search
decreases-loop-search g l = left l.budget l.search
