use Rattle.std.proofs.Common.{◌≡◌, ◌++◌, drop}
use Rattle.guarded_ssa.specs.inner.Held.{starts_from}
use Rattle.guarded_ssa.proofs.bytes.starts.Given as goal

abbrev pub invariant-loop-size : goal.invariant-loop-size
invariant-loop-size l = l.starts.items ++ starts_from l.next (drop l.size-index l.sizes) ≡ starts_from l.first l.sizes
