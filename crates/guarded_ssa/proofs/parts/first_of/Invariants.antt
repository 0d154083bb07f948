use Rattle.guarded_ssa.proofs.PartNodes.{Fronting}
use Rattle.guarded_ssa.proofs.parts.first_of.Given as goal

abbrev pub invariant-loop-place : goal.invariant-loop-place
invariant-loop-place l = Fronting l.fn.dag l.dag l.count l.new l.old l.bytes.items l.place
