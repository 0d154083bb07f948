-- The store: a finite map from object numbers to objects, as its entries by rising number.
use Rattle.std.specs.Prelude.{◌≡◌, ℕ, ◌==◌, Bool, true, false, not, List, [], length, take, drop, Option, Some, None, Result, Ok, Err, if◌then◌else◌}
use Rattle.std.specs.Ordering.{nat_cmp}
use Rattle.std.specs.Map.{lookup, set_value}
use Rattle.std.specs.BTreeMap.{is_at, insert_entry}
use Rattle.words.specs.declared.check.Class.{Class}
use Rattle.words.specs.declared.check.Class.TheVariants as class
use Rattle.actions.specs.declared.store.AccessError.{AccessError}
use Rattle.actions.specs.declared.store.AccessError.TheVariants.{Broken, Memory}
use Rattle.actions.specs.ByteList.{mutex_number, put_at}
use Rattle.actions.specs.Pointer.{object_of, offset_of}
use Rattle.actions.specs.StoredObject.{StoredObject, as_dead}
use Rattle.actions.specs.States.{ObjectState, state_of}
use Rattle.actions.specs.Access.{access_break, can_free}

abbrev pub Objects : Type 0
Objects = List (ℕ × StoredObject)

abbrev pub object_at : Objects → ℕ → Option StoredObject
object_at objects number = lookup (is_at (nat_cmp number)) objects

abbrev pub state_at : Objects → ℕ → ObjectState
state_at objects number = state_of (object_at objects number)

-- with this object under a number that no object has
abbrev pub with_new : Objects → ℕ → StoredObject → Objects
with_new objects number o = insert_entry nat_cmp objects number o

-- with this object in the place of the one that has the number, if there is one
abbrev pub with_object : Objects → ℕ → StoredObject → Objects
with_object objects number o = set_value (is_at (nat_cmp number)) objects o

abbrev pub changed_to : Objects → ℕ → (StoredObject → StoredObject) → Option StoredObject → Objects
changed_to objects number f None = objects
changed_to objects number f (Some o) = with_object objects number (f o)

-- the object of this number changed by f, if there is one
abbrev pub changed_at : Objects → ℕ → (StoredObject → StoredObject) → Objects
changed_at objects number f = changed_to objects number f (object_at objects number)

-- the object of this number is dead, if there is one
abbrev pub with_dead : Objects → ℕ → Objects
with_dead objects number = changed_at objects number as_dead

abbrev pub with_bytes_at : ℕ → List ℕ → StoredObject → StoredObject
with_bytes_at at new o = record o { bytes = put_at at new o.bytes }

-- these bytes stand where p points to
abbrev pub with_bytes : Objects → ℕ → List ℕ → Objects
with_bytes objects p bytes = changed_at objects (object_of p) (with_bytes_at (offset_of p) bytes)

abbrev pub bytes_in : ℕ → ℕ → Option StoredObject → List ℕ
bytes_in at n None = []
bytes_in at n (Some o) = take n (drop at o.bytes)

-- the n bytes that p points to
abbrev pub bytes_at : Objects → ℕ → ℕ → List ℕ
bytes_at objects p n = bytes_in (offset_of p) n (object_at objects (object_of p))

-- ---- what the calls of the store give

abbrev pub unless_broken : {X : Type 0} → Option Class → X → Result X Class
unless_broken None x = Ok x
unless_broken (Some c) x = Err c

abbrev pub break_in : Objects → Bool → ℕ → ℕ → Option Class
break_in objects writes p n = access_break writes p n (state_at objects (object_of p))

abbrev pub read : Objects → ℕ → ℕ → Result (List ℕ) Class
read objects p n = unless_broken (break_in objects false p n) (bytes_at objects p n)

-- the number of a mutex, read by an access that may change it
abbrev pub mutex : Objects → ℕ → Result ℕ Class
mutex objects p = unless_broken (break_in objects true p 4) (mutex_number (bytes_at objects p 4))

-- a write, and what the store holds after it: on a break it is unchanged
abbrev pub write_break : Objects → ℕ → List ℕ → Bool → Option Class
write_break objects p bytes first = break_in objects (not first) p (length bytes)

abbrev pub unless_changed : Option Class → Objects → Objects → Objects
unless_changed None old new = new
unless_changed (Some c) old new = old

abbrev pub after_write : Objects → ℕ → List ℕ → Bool → Objects
after_write objects p bytes first = unless_changed (write_break objects p bytes first) objects (with_bytes objects p bytes)

-- `free` of the null pointer is silent
abbrev pub free_break : Objects → ℕ → Option Class
free_break objects p =
    if p == 0 then None else (if can_free p (state_at objects (object_of p)) then None else Some class.Free)

abbrev pub after_free : Objects → ℕ → Objects
after_free objects p =
    if p == 0 then objects else (if can_free p (state_at objects (object_of p)) then with_dead objects (object_of p) else objects)

-- why a read gave no bytes: it breaks just this class, or it breaks none and there was no memory
abbrev pub HasCause : AccessError → Result (List ℕ) Class → Type 0
HasCause (Broken class) gives = gives ≡ Err class
HasCause Memory (Ok bytes) = Unit {0}
HasCause Memory (Err class) = ⊥

-- an answer that is only for what breaks nothing
abbrev pub result_of : Option Class → Result Unit Class
result_of None = Ok tt
result_of (Some c) = Err c
