use mir.Val.{bool_byte}
use Rattle.std.proofs.Common.{ℕ, Bool, true, false, ◌+◌, ◌*◌, ◌<◌, ◌^◌, Fits, w64, arith}
use Rattle.sat_form.specs.Satisfaction.{assignment_of}
use Rattle.bit_blast.proofs.Promises.{number_small}
use Rattle.bit_blast.proofs.lifting.number.Goals as goal

pub overflow_mul-number : goal.overflow_mul-number
overflow_mul-number c =
    let h = number_small (assignment_of c.args.assignment.now) c.args.literals.now c.loop-place.place c.loop-place-test.true c.requires in
    let l : c.loop-place.number < 2 ^ 63 = omega (arith, h, c.loop-place.invariant) in
    omega arith

-- a bit below a number that has room for it
room : (n : ℕ) (b : Bool) → n < 2 ^ 63 → Fits w64 (2 * n + bool_byte b)
room n true l = omega arith
room n false l = omega arith

pub overflow_add-number : goal.overflow_add-number
overflow_add-number c =
    let h = number_small (assignment_of c.args.assignment.now) c.args.literals.now c.loop-place.place c.loop-place-test.true c.requires in
    room c.loop-place.number c.value.result (omega (arith, h, c.loop-place.invariant))
