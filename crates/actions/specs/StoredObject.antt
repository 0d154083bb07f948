-- What the store keeps of an object.
use Rattle.std.specs.Prelude.{◌≡◌, ◌≤◌, ◌<◌, ◌+◌, ◌^◌, ℕ, Bool, true, false, List, [], length, All}
use Rattle.std.proofs.lemmas.List.Elements.{All-nil}
use Rattle.actions.specs.ByteList.{are_bytes}
use Rattle.actions.specs.declared.cells.Cell.{Cell}

pub record StoredObject : Type 0 where
  pub size : ℕ
  pub cells : List Cell
  pub live : Bool
  pub readonly : Bool
  pub heap : Bool
  pub bytes : List ℕ

-- what is true of each `Object`: it has as many bytes as its size says, and its cells lie within it
pub record IsObject (o : StoredObject) : Type 0 where
  pub whole : length o.bytes ≡ o.size
  pub within : All (λ (c : Cell). c.offset + c.size ≤ o.size) o.cells

-- an object that a thread can make: one that an `Object` can be, whose size is told by 32 bits and whose bytes are below 256
pub record CanBeMade (o : StoredObject) : Type 0 where
  pub object : IsObject o
  pub small : o.size < 2 ^ 32
  pub bytes : are_bytes o.bytes ≡ true

abbrev pub stored : ℕ → List Cell → Bool → Bool → Bool → List ℕ → StoredObject
stored size cells live readonly heap bytes = record { size = size; cells = cells; live = live; readonly = readonly; heap = heap; bytes = bytes }

-- so can one without cells
pub made_without_cells : (size : ℕ) (live readonly heap : Bool) (bytes : List ℕ) → length bytes ≡ size → size < 2 ^ 32 → are_bytes bytes ≡ true → CanBeMade (stored size [] live readonly heap bytes)
made_without_cells size live readonly heap bytes whole small below = record {
  object = record { whole = whole; within = All-nil (λ (c : Cell). c.offset + c.size ≤ size) };
  small = small;
  bytes = below;
}

-- the same object, live, or dead (C11 6.2.4p2)
abbrev pub as_live : StoredObject → StoredObject
as_live o = record o { live = true }

abbrev pub as_dead : StoredObject → StoredObject
as_dead o = record o { live = false }
