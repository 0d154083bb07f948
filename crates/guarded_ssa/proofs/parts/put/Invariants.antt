use Rattle.std.proofs.Common.{◌-◌, length}
use Rattle.guarded_ssa.proofs.PartNodes.{Placing}
use Rattle.guarded_ssa.proofs.parts.put.Given as goal

abbrev pub invariant-parts : goal.invariant-parts
invariant-parts l = Placing l.fn.dag l.dag l.block l.new l.bytes.items l.offset l.at

abbrev pub decreases-parts : goal.decreases-parts
decreases-parts l = length l.new - l.at
