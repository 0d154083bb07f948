-- What can be seen of an object number: no object has it, its object is dead, or live. Of a dead object nothing else can be seen.
use Rattle.std.specs.Prelude.{ℕ, Bool, true, false, List, Option, Some, None, if◌then◌else◌}
use Rattle.actions.specs.declared.cells.Cell.{Cell}
use Rattle.actions.specs.StoredObject.{StoredObject}

pub data ObjectState : Type 0 where
  absent : ObjectState
  dead : ObjectState
  live : (size : ℕ) (cells : List Cell) (readonly heap : Bool) → ObjectState

abbrev pub is_absent : ObjectState → Bool
is_absent absent = true
is_absent dead = false
is_absent (live size cells readonly heap) = false

abbrev pub state_of : Option StoredObject → ObjectState
state_of None = absent
state_of (Some o) = if o.live then live o.size o.cells o.readonly o.heap else dead
