-- What object places hold under a valuation, oldest first, and the objects of a store that they stand for.
use Rattle.std.specs.Prelude.{◌≡◌, ◌<◌, ◌≤◌, ℕ, zero, suc, ◌==◌, List, [], ◌∷◌, length, All, Option, Some, None, if◌then◌else◌, false, true}
use Rattle.actions.specs.ByteList.{are_bytes}
use Rattle.actions.specs.StoredObject.{StoredObject}
use Rattle.actions.specs.Objects.{Objects, object_at}

-- the object of a place that is born, and its number
pub record Spot : Type 0 where
  pub number : ℕ
  pub object : StoredObject

-- of each place; None where it is not born
abbrev pub Spots : Type 0
Spots = List (Option Spot)

-- the object under a number: of the one place that is born under it
abbrev pub held : Spots → ℕ → Option StoredObject
held [] k = None
held (None ∷ spots) k = held spots k
held (Some s ∷ spots) k = if k == s.number then Some s.object else held spots k

-- the numbers of places that are born rise, from above one number up to another
abbrev pub Rising : ℕ → Spots → ℕ → Type 0
Rising low [] top = low ≤ top
Rising low (None ∷ spots) top = Rising low spots top
Rising low (Some s ∷ spots) top = (low < s.number) × Rising s.number spots top

-- the objects of a store are those of the places that are born
pub record AreObjectsOf (spots : Spots) (objects : Objects) : Type 0 where
  pub objects_are : (k : ℕ) → object_at objects k ≡ held spots k
  pub rises : Rising 0 spots (length objects)

-- ---- the objects that a program starts with

-- it is live, without cells, not from the heap, and has as many bytes as its size says, each below 256
pub record IsFirst (o : StoredObject) : Type 0 where
  pub cells : o.cells ≡ []
  pub live : o.live ≡ true
  pub heap : o.heap ≡ false
  pub whole : length o.bytes ≡ o.size
  pub bytes : are_bytes o.bytes ≡ true

-- their numbers are this one and those behind it, in order
abbrev pub AreNumbered : ℕ → Objects → Type 0
AreNumbered k [] = Unit {0}
AreNumbered k (e ∷ objects) = (e.0 ≡ k) × AreNumbered (suc k) objects

pub record AreFirst (objects : Objects) : Type 0 where
  pub numbers : AreNumbered 1 objects
  pub each : All (λ (e : ℕ × StoredObject). IsFirst e.1) objects

-- ---- changes

abbrev pub changed_spot : (StoredObject → StoredObject) → Option Spot → Option Spot
changed_spot f None = None
changed_spot f (Some s) = Some (record { number = s.number; object = f s.object })

-- the object of the place at this index is changed
abbrev pub change_at : ℕ → (StoredObject → StoredObject) → Spots → Spots
change_at i f [] = []
change_at zero f (s ∷ spots) = changed_spot f s ∷ spots
change_at (suc i) f (s ∷ spots) = s ∷ change_at i f spots
