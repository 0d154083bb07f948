-- A location byte by byte: the state of an object number, each byte of its cells, the state of a thread number; what stands there, and what a change writes there. By bytes the definitions need no premise on how cells overlap.
use Rattle.std.specs.Prelude.{◌≡◌, ℕ, ◌+◌, ◌-◌, ◌<◌, ◌≤◌, ◌==◌, ◌&&◌, nat_lt, nat_le, List, Option, Some, None, slice_get, length, if◌then◌else◌}
use Rattle.actions.specs.declared.thread_state.ThreadState.{ThreadState}
use Rattle.actions.specs.declared.thread_state.ThreadState.TheVariants.{Running, Ended}
use Rattle.actions.specs.Pointer.{object_of, offset_of}
use Rattle.actions.specs.StoredObject.{StoredObject}
use Rattle.actions.specs.States.{ObjectState, dead, state_of}
use Rattle.actions.specs.Objects.{state_at, object_at}
use Rattle.actions.specs.Memory.{Memory, thread_at, Location, Change, adds, kills, puts, starts, ends}
use Rattle.actions.specs.Memory.{object as location_object, cell as location_cell, thread as location_thread}
use Rattle.actions.specs.Row.{Row, Reads}

pub data Place : Type 0 where
  object : (number : ℕ) → Place
  byte : (number offset : ℕ) → Place
  thread : (number : ℕ) → Place

-- what can stand at a place
pub data Value : Type 0 where
  is_object : (s : ObjectState) → Value
  is_byte : (b : Option ℕ) → Value
  is_thread : (s : Option ThreadState) → Value

abbrev pub byte_in : ℕ → Option StoredObject → Option ℕ
byte_in i None = None
byte_in i (Some o) = slice_get o.bytes i

abbrev pub value_at : Memory → Place → Value
value_at m (object k) = is_object (state_at m.objects k)
value_at m (byte k i) = is_byte (byte_in i (object_at m.objects k))
value_at m (thread k) = is_thread (thread_at m.threads k)

-- the places of a location
abbrev pub IsPartOf : Location → Place → Type 0
IsPartOf (location_object k) (object j) = j ≡ k
IsPartOf (location_cell k at size) (byte j i) = (j ≡ k) × (at ≤ i) × (i < at + size)
IsPartOf (location_thread k) (thread j) = j ≡ k
IsPartOf _ _ = ⊥

-- a row reads the places of each location that it looks at in this memory
abbrev pub ReadsPlace : Memory → Row → Place → Type 0
ReadsPlace m row p = (l : Location) × Reads m row l × IsPartOf l p

abbrev pub only_if : {X : Type 0} → ℕ → ℕ → X → Option X
only_if j k x = if j == k then Some x else None

abbrev pub put_byte : ℕ → List ℕ → ℕ → Option Value
put_byte at bytes i = if nat_le at i && nat_lt i (at + length bytes) then Some (is_byte (slice_get bytes (i - at))) else None

abbrev pub if_here : ℕ → ℕ → Option Value → Option Value
if_here j k o = if j == k then o else None

-- what a change writes at a place, if it writes there
abbrev pub written : Change → Place → Option Value
written (adds n o) (object k) = only_if k n (is_object (state_of (Some o)))
written (adds n o) (byte k i) = only_if k n (is_byte (slice_get o.bytes i))
written (kills n) (object k) = only_if k n (is_object dead)
written (puts p bytes) (byte k i) = if_here k (object_of p) (put_byte (offset_of p) bytes i)
written (starts n f v) (thread k) = only_if k n (is_thread (Some Running))
written (ends n v) (thread k) = only_if k n (is_thread (Some (Ended v)))
written _ p = None
