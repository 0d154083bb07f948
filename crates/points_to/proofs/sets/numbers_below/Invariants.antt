use Rattle.std.proofs.Common.{◌≡◌, ◌<◌, ℕ, true}
use Rattle.points_to.specs.Sets.{has_member}
use Rattle.points_to.proofs.sets.numbers_below.Given as goal

abbrev pub invariant-loop-k : goal.invariant-loop-k
invariant-loop-k l = (k : ℕ) → k < l.k → has_member l.numbers.items k ≡ true
