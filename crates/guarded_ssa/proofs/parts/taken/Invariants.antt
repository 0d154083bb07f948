use Rattle.std.proofs.Common.{◌-◌}
use Rattle.guarded_ssa.proofs.PartNodes.{Taking}
use Rattle.guarded_ssa.proofs.parts.taken.Given as goal

abbrev pub invariant-parts : goal.invariant-parts
invariant-parts l = Taking l.fn.dag l.dag l.block l.bytes.items l.offset l.at l.count

abbrev pub decreases-parts : goal.decreases-parts
decreases-parts l = l.count - l.at
