use Rattle.std.proofs.Common.{◌≡◌, ◌++◌}
use Rattle.std.specs.Prelude.{replicate}
use Rattle.guarded_ssa.proofs.bytes.repeated.Given as goal

abbrev pub invariant-times : goal.invariant-times
invariant-times l = l.numbers.items ≡ l.fn.numbers.items ++ replicate l.counter l.number
