use Rattle.std.proofs.Common.{◌≡◌, ◌-◌, ◌++◌}
use Rattle.guarded_ssa.specs.inner.Held.{counted}
use Rattle.guarded_ssa.proofs.bytes.counted.Given as goal

abbrev pub invariant-loop-k : goal.invariant-loop-k
invariant-loop-k l = l.numbers.items ++ counted l.k (l.count - l.k) ≡ counted 0 l.count
