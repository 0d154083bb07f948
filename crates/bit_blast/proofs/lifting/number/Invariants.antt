use Rattle.std.proofs.Common.{◌≡◌, drop}
use Rattle.sat_form.specs.Satisfaction.{assignment_of}
use Rattle.sat_form.specs.Numbers.{value_of}
use Rattle.bit_blast.proofs.lifting.number.Given as goal

abbrev pub invariant-loop-place : goal.invariant-loop-place
invariant-loop-place l = l.number ≡ value_of (drop l.place l.literals) (assignment_of l.assignment)
