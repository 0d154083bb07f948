-- Object places as nodes, and what they hold under a valuation.
use Rattle.std.specs.Prelude.{◌≡◌, ◌<◌, ◌≤◌, ◌^◌, ℕ, zero, suc, Bool, ◌&&◌, ◌==◌, List, [], ◌∷◌, map, take, length, All, Option, Some, None, if◌then◌else◌}
use Rattle.actions.specs.StoredObject.{StoredObject, stored}
use Rattle.actions.specs.Objects.{Objects, object_at}
use Rattle.word_dag.specs.declared.nodes.Id.{Id}
use Rattle.word_dag.specs.declared.nodes.Node.{Node}
use Rattle.word_dag.specs.Meaning.{value, holds}
use Rattle.value_nodes.specs.Values.{IsWord, AreBytes}
use Rattle.object_memory.specs.declared.places.Place.{Place}
use Rattle.object_memory.specs.declared.memory.Memory.{Memory}
use Rattle.object_memory.specs.Spots.{Spot, Spots, held, Rising}

-- ---- under a valuation

abbrev pub place_object : (ℕ → ℕ) → List Node → Place → StoredObject
place_object v d p = stored (value v d p.size) [] (holds (value v d p.live)) p.readonly p.heap (take (value v d p.size) (map (value v d) p.bytes.items))

abbrev pub spot_of : (ℕ → ℕ) → List Node → Place → Option Spot
spot_of v d p = if holds (value v d p.born) then Some (record { number = value v d p.number; object = place_object v d p }) else None

abbrev pub spots : (ℕ → ℕ) → List Node → List Place → Spots
spots v d places = map (spot_of v d) places

-- the place is born under this number
abbrev pub is_under : (ℕ → ℕ) → List Node → Place → ℕ → Bool
is_under v d p k = holds (value v d p.born) && (k == value v d p.number)

-- the memory's places hold the objects of a store
pub record StandsFor (v : ℕ → ℕ) (d : List Node) (m : Memory) (objects : Objects) : Type 0 where
  pub objects_are : (k : ℕ) → object_at objects k ≡ held (spots v d m.places.items) k
  pub rises : Rising 0 (spots v d m.places.items) (length objects)
  pub count_is : value v d m.count ≡ length objects

-- ---- in a graph

-- its nodes are words of the graph, and its size is at most the number of its bytes
pub record PlaceIn (d : List Node) (p : Place) : Type 0 where
  pub born : IsWord d p.born 1
  pub number : IsWord d p.number 32
  pub size : IsWord d p.size 32
  pub live : IsWord d p.live 1
  pub bytes : AreBytes d p.bytes.items
  pub short : length p.bytes.items < 2 ^ 32
  pub whole : (v : ℕ → ℕ) → value v d p.size ≤ length p.bytes.items

-- so are those of all places, of which there are so few that their numbers have 32 bits
pub record MemoryIn (d : List Node) (m : Memory) : Type 0 where
  pub places : All (PlaceIn d) m.places.items
  pub count : IsWord d m.count 32
  pub few : length m.places.items < 2 ^ 32
  pub counted : (v : ℕ → ℕ) → value v d m.count ≤ length m.places.items

-- ---- a place with another block, or another life

abbrev pub with_live : List Place → ℕ → Id → List Place
with_live [] at i = []
with_live (p ∷ places) zero i = record p { live = i } ∷ places
with_live (p ∷ places) (suc at) i = p ∷ with_live places at i
