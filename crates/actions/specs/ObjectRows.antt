-- Objects come and go (C11 6.2.4, 7.22.3).
use Rattle.std.specs.Prelude.{ℕ, ◌==◌, if◌then◌else◌}
use Rattle.words.specs.declared.check.Class.TheVariants.{Free}
use Rattle.actions.specs.declared.action.Answer.TheVariants as answer
use Rattle.actions.specs.Pointer.{object_of}
use Rattle.actions.specs.StoredObject.{StoredObject, as_live}
use Rattle.actions.specs.States.{is_absent}
use Rattle.actions.specs.Access.{can_free}
use Rattle.actions.specs.Memory.{keeps, adds, kills}
use Rattle.actions.specs.Row.{Row, comes, sees_object, breaks, moves}

-- a live object under the thread's next number; the number
abbrev pub alloc_row : ℕ → StoredObject → Row
alloc_row number o = comes (moves (answer.Number number) (adds number (as_live o)))

-- the object is dead; a number that no object has stays one
abbrev pub die_row : ℕ → Row
die_row number = sees_object number (λ state. comes (moves answer.Done (if is_absent state then keeps else kills number)))

-- the object is dead; `free` of the null pointer is silent
abbrev pub free_row : ℕ → Row
free_row p =
    if p == 0 then comes (moves answer.Done keeps)
    else sees_object (object_of p) (λ state. comes (if can_free p state then moves answer.Done (kills (object_of p)) else breaks Free))
