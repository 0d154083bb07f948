use Rattle.sat_form.specs.Satisfaction.{assignment_of}
use Rattle.bit_blast.proofs.Promises.{LiftedTo}
use Rattle.bit_blast.proofs.lifting.lift.Given as goal

abbrev pub invariant-loop-index : goal.invariant-loop-index
invariant-loop-index l = LiftedTo l.blasted.map (assignment_of l.assignment) l.index l.values.items
