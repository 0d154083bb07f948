use Rattle.std.proofs.Common.{◌≡◌, ◌∷◌, Some, None}
use Rattle.std.specs.Prelude.{replicate}
use Rattle.guarded_ssa.proofs.pass.followed.Given as goal

abbrev pub invariant-places : goal.invariant-places
invariant-places l = l.pending.items ≡ Some l.fn.first ∷ replicate l.counter None
