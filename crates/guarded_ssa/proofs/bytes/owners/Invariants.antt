use Rattle.std.proofs.Common.{◌≡◌, ◌++◌, drop}
use Rattle.guarded_ssa.specs.inner.Held.{counted, owners_from}
use Rattle.guarded_ssa.proofs.bytes.owners.Given as goal

abbrev pub invariant-loop-size : goal.invariant-loop-size
invariant-loop-size l = l.numbers.items ++ owners_from l.number (drop l.size-index l.sizes) ≡ counted 0 l.registers ++ owners_from l.registers l.sizes
