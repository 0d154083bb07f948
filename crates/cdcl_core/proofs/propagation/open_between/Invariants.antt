use Rattle.cdcl_core.specs.Readings.{AreFalseBetween}
use Rattle.cdcl_core.proofs.propagation.open_between.Given as goal

abbrev pub invariant-loop-place : goal.invariant-loop-place
invariant-loop-place l = AreFalseBetween l.trail.steps l.clause l.literal l.from l.place
