use Rattle.std.proofs.Common.{◌≡◌, ◌++◌, drop, replicate}
use Rattle.gate_bits.proofs.lists.moved_down.Given as goal

abbrev pub invariant-loop : goal.invariant-loop
invariant-loop l = l.moved.items ≡ drop l.fn.distance l.fn.bits ++ replicate l.counter l.fill
