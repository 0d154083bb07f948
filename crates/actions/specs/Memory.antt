-- What threads share: the objects of the store and the states of the threads. An action reads and changes it at locations: the state of an object number, the bytes of a cell, the state of a thread number.
use Rattle.std.specs.Prelude.{◌≡◌, ◌<◌, ◌≤◌, ◌+◌, ℕ, List, length, Option, Some, None}
use Rattle.std.specs.Ordering.{nat_cmp}
use Rattle.std.specs.Map.{lookup, set_value}
use Rattle.std.specs.BTreeMap.{is_at, insert_entry}
use Rattle.actions.specs.declared.thread_state.ThreadState.{ThreadState}
use Rattle.actions.specs.declared.thread_state.ThreadState.TheVariants.{Running, Ended}
use Rattle.actions.specs.Pointer.{object_of, offset_of}
use Rattle.actions.specs.StoredObject.{StoredObject}
use Rattle.actions.specs.Objects.{Objects, object_at, state_at, with_new, with_dead, with_bytes, bytes_in}

pub record Memory : Type 0 where
  pub objects : Objects
  pub threads : List (ℕ × ThreadState)

abbrev pub thread_at : List (ℕ × ThreadState) → ℕ → Option ThreadState
thread_at threads number = lookup (is_at (nat_cmp number)) threads

pub data Location : Type 0 where
  object : (number : ℕ) → Location
  cell : (number offset size : ℕ) → Location
  thread : (number : ℕ) → Location

-- the bytes of a cell
abbrev pub cell_bytes : Objects → ℕ → ℕ → ℕ → List ℕ
cell_bytes objects number offset size = bytes_in offset size (object_at objects number)

-- two memories have the same at a location
abbrev pub SameAt : Memory → Memory → Location → Type 0
SameAt m n (object number) = state_at m.objects number ≡ state_at n.objects number
SameAt m n (cell number offset size) = cell_bytes m.objects number offset size ≡ cell_bytes n.objects number offset size
SameAt m n (thread number) = thread_at m.threads number ≡ thread_at n.threads number

-- what an action changes
pub data Change : Type 0 where
  keeps : Change
  adds : (number : ℕ) (o : StoredObject) → Change
  kills : (number : ℕ) → Change
  puts : (p : ℕ) (bytes : List ℕ) → Change
  starts : (number function value : ℕ) → Change
  ends : (number value : ℕ) → Change

abbrev pub changed : Memory → Change → Memory
changed m keeps = m
changed m (adds number o) = record m { objects = with_new m.objects number o }
changed m (kills number) = record m { objects = with_dead m.objects number }
changed m (puts p bytes) = record m { objects = with_bytes m.objects p bytes }
changed m (starts number function value) = record m { threads = insert_entry nat_cmp m.threads number Running }
changed m (ends number value) = record m { threads = set_value (is_at (nat_cmp number)) m.threads (Ended value) }

-- the locations that a change writes
abbrev pub Writes : Change → Location → Type 0
Writes (adds number o) (object k) = k ≡ number
Writes (adds number o) (cell k at size) = k ≡ number
Writes (kills number) (object k) = k ≡ number
Writes (puts p bytes) (cell k at size) = (k ≡ object_of p) × (at < offset_of p + length bytes) × (offset_of p < at + size)
Writes (starts number function value) (thread k) = k ≡ number
Writes (ends number value) (thread k) = k ≡ number
Writes _ l = ⊥

abbrev pub Holds : ℕ → List ℕ → Option StoredObject → Type 0
Holds at bytes None = Unit {0}
Holds at bytes (Some o) = at + length bytes ≤ length o.bytes

-- bytes are put only within an object, as the check of each access says
abbrev pub IsWithin : Memory → Change → Type 0
IsWithin m (puts p bytes) = Holds (offset_of p) bytes (object_at m.objects (object_of p))
IsWithin m _ = Unit {0}

-- a change keeps what stands at the locations that it doesn't write
abbrev pub WritesAlone : Type 0
WritesAlone = (m : Memory) (c : Change) (l : Location) → IsWithin m c → (Writes c l → ⊥) → SameAt (changed m c) m l
