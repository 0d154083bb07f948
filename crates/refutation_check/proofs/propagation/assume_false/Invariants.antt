use Rattle.std.proofs.Common.{◌≡◌, take}
use Rattle.refutation_check.specs.Sets.{holds}
use Rattle.refutation_check.specs.Outcomes.{IsNegation}
use Rattle.refutation_check.proofs.propagation.assume_false.Given as goal

abbrev pub invariant-loop-literal : goal.invariant-loop-literal
invariant-loop-literal l =
    (l.set.variables ≡ l.fn.set.variables) × IsNegation (take l.literal-index l.literal-items) (holds l.set)
