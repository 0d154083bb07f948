use Rattle.std.proofs.Common.{◌≡◌, ℕ, ◌<◌, get_or}
use Rattle.sat_form.specs.Satisfaction.{Literal}
use Rattle.cdcl_core.proofs.watches.unlike.Given as goal

abbrev pub invariant-loop-other : goal.invariant-loop-other
invariant-loop-other l = (k : ℕ) (m : Literal) → k < l.other-index → get_or l.other-items k m ≡ m → m ≡ l.literal
