-- What is asked of the object that a pointer points to.
use Rattle.std.specs.Prelude.{◌≡◌, ◌≤◌, ℕ, ◌+◌, ◌==◌, ◌&&◌, Bool, true, false, not, nat_lt, List, [], ◌∷◌, map, slice_index_or, Some}
use Rattle.actions.specs.StoredObject.{StoredObject, stored}
use Rattle.actions.specs.Objects.{bytes_in}
use Rattle.word_dag.specs.declared.nodes.Node.{Node}
use Rattle.word_dag.specs.Meaning.{value}
use Rattle.object_memory.specs.declared.places.Hit.{Hit}
use Rattle.object_memory.specs.declared.places.Place.{Place}
use Rattle.object_memory.specs.declared.breaking.Question.{Question}
use Rattle.object_memory.specs.declared.breaking.Question.TheVariants.{Unknown, Ended, Outside, Constant, Kept}
use Rattle.object_memory.specs.Places.{place_object}

-- the answer of an object, at an offset
abbrev pub asks : Question → ℕ → StoredObject → Bool
asks Unknown at o = false
asks Ended at o = not o.live
asks (Outside count) at o = nat_lt o.size (at + count)
asks Constant at o = o.readonly
asks Kept at o = not ((at == 0) && (o.live && o.heap))

-- the answer where there is no object
abbrev pub asks_none : Question → Bool
asks_none Unknown = true
asks_none Ended = false
asks_none (Outside count) = false
asks_none Constant = false
asks_none Kept = true

abbrev pub no_object : StoredObject
no_object = stored 0 [] false false false []

abbrev pub objects_of : (ℕ → ℕ) → List Node → List Place → List StoredObject
objects_of v d places = map (place_object v d) places

-- the answer of the first of these places
abbrev pub answered : Question → (ℕ → ℕ) → List Node → List StoredObject → List Hit → Bool
answered q v d objects [] = asks_none q
answered q v d objects (h ∷ hits) = asks q (value v d h.offset) (slice_index_or objects h.place no_object)

-- ---- what a read finds

-- these are the bytes of the first of these places from its offset on, where so many lie within its size
abbrev pub Reads : (ℕ → ℕ) → List Node → List StoredObject → List Hit → ℕ → List ℕ → Type 0
Reads v d objects [] count bytes = Unit {0}
Reads v d objects (h ∷ hits) count bytes =
    value v d h.offset + count ≤ (slice_index_or objects h.place no_object).size → bytes ≡ bytes_in (value v d h.offset) count (Some (slice_index_or objects h.place no_object))

-- it is the size of the first of these places
abbrev pub HasSize : List StoredObject → List Hit → ℕ → Type 0
HasSize objects [] size = Unit {0}
HasSize objects (h ∷ hits) size = size ≡ (slice_index_or objects h.place no_object).size
