use Rattle.std.proofs.Common.{◌≡◌, ◌+◌, ◌≤◌, drop}
use Rattle.points_to.specs.Sets.{pointers_in}
use Rattle.points_to.proofs.sets.pointer_count.Given as goal

abbrev pub invariant-loop-instruction : goal.invariant-loop-instruction
invariant-loop-instruction l = (l.count + pointers_in (drop l.instruction-index l.code) ≡ pointers_in l.code) × (l.count ≤ l.instruction-index)
