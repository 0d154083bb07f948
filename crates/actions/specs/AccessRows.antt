-- Reads, writes and looks (C11 6.5.3.2p4, 6.2.4p2).
use Rattle.std.specs.Prelude.{ℕ, Bool, false, not, List, length, Result, Ok, Err, if◌then◌else◌}
use Rattle.words.specs.declared.check.Class.{Class}
use Rattle.words.specs.declared.check.Class.TheVariants.{Pointer}
use Rattle.actions.specs.declared.action.Answer.TheVariants as answer
use Rattle.actions.specs.Pointer.{object_of}
use Rattle.actions.specs.Access.{access_break, look}
use Rattle.actions.specs.Memory.{keeps, puts}
use Rattle.actions.specs.Row.{Row, comes, sees_object, sees_bytes, Outcome, breaks, moves, unless}

-- an access of n bytes at p: it looks at the object, and goes on if that breaks nothing
abbrev pub accessed : Bool → ℕ → ℕ → Row → Row
accessed writes p n row = sees_object (object_of p) (λ state. unless (access_break writes p n state) row)

-- the bytes
abbrev pub read_row : ℕ → ℕ → Row
read_row p n = accessed false p n (sees_bytes p n (λ bytes. comes (moves (answer.Bytes bytes) keeps)))

-- the bytes are stored; the first write of an object may be to one that is read-only
abbrev pub write_row : ℕ → List ℕ → Bool → Row
write_row p bytes first = accessed (not first) p (length bytes) (comes (moves answer.Done (puts p bytes)))

-- the object's size; where the look isn't for a subscript each break is one of a pointer sum (C11 6.5.6p8)
abbrev pub looked : Bool → Result ℕ Class → Outcome
looked subscript (Ok size) = moves (answer.Size size) keeps
looked subscript (Err class) = breaks (if subscript then class else Pointer)

abbrev pub look_row : ℕ → Bool → Row
look_row p subscript = sees_object (object_of p) (λ state. comes (looked subscript (look p state)))
