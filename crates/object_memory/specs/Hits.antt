-- The places that a pointer points to, each with a test and an offset, of which no more than one test is true.
use Rattle.std.specs.Prelude.{◌≡◌, ◌<◌, ◌≤◌, ◌+◌, ℕ, List, [], ◌∷◌, Some, None, slice_index_or, if◌then◌else◌}
use Rattle.actions.specs.Pointer.{object_of, offset_of}
use Rattle.actions.specs.StoredObject.{StoredObject, as_dead}
use Rattle.actions.specs.Objects.{with_bytes_at}
use Rattle.word_dag.specs.declared.nodes.Node.{Node}
use Rattle.word_dag.specs.Meaning.{value, holds}
use Rattle.value_nodes.specs.Values.{IsWord}
use Rattle.object_memory.specs.declared.places.Hit.{Hit}
use Rattle.object_memory.specs.Spots.{Spot, Spots, held, change_at}

-- its nodes are words of the graph, and it is one of so many places
pub record HitIn (d : List Node) (count : ℕ) (h : Hit) : Type 0 where
  pub test : IsWord d h.test 1
  pub place : h.place < count
  pub offset : IsWord d h.offset 32

-- those whose tests are true
abbrev pub truly : (ℕ → ℕ) → List Node → List Hit → List Hit
truly v d [] = []
truly v d (h ∷ hits) = if holds (value v d h.test) then h ∷ truly v d hits else truly v d hits

-- a pointer points to this place, at this offset
pub record IsHit (v : ℕ → ℕ) (d : List Node) (spots : Spots) (p : ℕ) (h : Hit) : Type 0 where
  pub spot : Spot
  pub is : slice_index_or spots h.place None ≡ Some spot
  pub number : spot.number ≡ object_of p
  pub offset : value v d h.offset ≡ offset_of p

-- of those whose tests are true there is one where its object is, and else none
abbrev pub IsFound : (ℕ → ℕ) → List Node → Spots → ℕ → List Hit → Type 0
IsFound v d spots p [] = held spots (object_of p) ≡ None
IsFound v d spots p (h ∷ []) = IsHit v d spots p h
IsFound v d spots p (h ∷ other ∷ hits) = ⊥

-- ---- changes

-- the objects of these places are changed, each by what f says of the hit
abbrev pub changed_by : (Hit → StoredObject → StoredObject) → List Hit → Spots → Spots
changed_by f [] spots = spots
changed_by f (h ∷ hits) spots = changed_by f hits (change_at h.place (f h) spots)

-- these bytes are put where a hit says
abbrev pub put_by : (ℕ → ℕ) → List Node → List ℕ → Hit → StoredObject → StoredObject
put_by v d bytes h = with_bytes_at (value v d h.offset) bytes

abbrev pub dead_by : Hit → StoredObject → StoredObject
dead_by h = as_dead

-- there is one of these at most, and so many bytes from its offset on lie within the size of its object
abbrev pub OneFits : (ℕ → ℕ) → List Node → Spots → ℕ → List Hit → Type 0
OneFits v d spots count [] = Unit {0}
OneFits v d spots count (h ∷ []) = (s : Spot) → slice_index_or spots h.place None ≡ Some s → value v d h.offset + count ≤ s.object.size
OneFits v d spots count (h ∷ other ∷ hits) = ⊥

-- there is one of these at most
abbrev pub AtMostOne : List Hit → Type 0
AtMostOne [] = Unit {0}
AtMostOne (h ∷ []) = Unit {0}
AtMostOne (h ∷ other ∷ hits) = ⊥
