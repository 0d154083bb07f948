use Rattle.std.proofs.Common.{◌≡◌, ◌+◌, ◌≤◌, drop}
use Rattle.goto_prog.specs.Allocations.{code_allocations}
use Rattle.points_to.proofs.sets.allocation_count.Given as goal

abbrev pub invariant-loop-instruction : goal.invariant-loop-instruction
invariant-loop-instruction l = (l.count + code_allocations (drop l.instruction-index l.code) ≡ code_allocations l.code) × (l.count ≤ l.instruction-index)
