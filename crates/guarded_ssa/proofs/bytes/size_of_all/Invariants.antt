use Rattle.std.proofs.Common.{◌≡◌, ◌+◌, drop}
use Rattle.guarded_ssa.specs.inner.Held.{total}
use Rattle.guarded_ssa.proofs.bytes.size_of_all.Given as goal

abbrev pub invariant-loop-size : goal.invariant-loop-size
invariant-loop-size l = l.bytes + total (drop l.size-index l.sizes) ≡ total l.sizes
