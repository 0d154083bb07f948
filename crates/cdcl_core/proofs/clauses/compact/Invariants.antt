use Rattle.cdcl_core.proofs.Storing.{IsCompact}
use Rattle.cdcl_core.proofs.clauses.compact.Given as goal

abbrev pub invariant-loop-place : goal.invariant-loop-place
invariant-loop-place g l = IsCompact l.marks l.fn.items.items l.items.items l.kept l.place
