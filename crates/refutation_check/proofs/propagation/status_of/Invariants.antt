use Rattle.std.proofs.Common.{take}
use Rattle.refutation_check.specs.Sets.{holds}
use Rattle.refutation_check.specs.Outcomes.{HasLast}
use Rattle.refutation_check.proofs.propagation.status_of.Given as goal

abbrev pub invariant-loop-literal : goal.invariant-loop-literal
invariant-loop-literal l = HasLast (holds l.set) (take l.literal-index l.literal-items) l.last
