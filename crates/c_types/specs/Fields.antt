-- What the fields of the records of a file stand for.
use Rattle.std.specs.Prelude.{ℕ, ◌≡◌, ◌++◌, ◌+◌, ◌<◌, ◌≤◌, max, true, false, List, [], ◌∷◌, map, Option, Some, None, option_and_then, slice_get, MatchOption}
use Rattle.c_types.specs.declared.types.RecordKind.{RecordKind}
use Rattle.c_types.specs.declared.types.Cell.{Cell}
use Rattle.c_types.specs.declared.layouts.Whole.{Whole}
use Rattle.c_types.specs.declared.layouts.Declared.{Declared}
use Rattle.c_types.specs.declared.extents.Extent.{Extent}
use Rattle.c_types.specs.declared.extents.Filled.{Filled}
use Rattle.c_types.specs.declared.fault.LayoutError.{LayoutError}
use Rattle.c_types.specs.declared.fault.LayoutError.TheVariants.{Incomplete, NoElements, TooLarge, Memory}
use Rattle.c_types.specs.Types.{CType, views, Completed, Records}
use Rattle.c_types.specs.Layouts.{Layout, completed_at, record_layout, IsBuilt, is_sized, padded, alignment_of, size_of, most_bytes, fits}

-- a completed record without where it lies in memory
abbrev pub completed_of : Whole → Completed
completed_of w = record { place = w.place; kind = w.kind; members = views w.members.items }

-- behind those, these, the last first
abbrev pub newest_first : List Completed → List Whole → List Completed
newest_first done [] = done
newest_first done (w ∷ ws) = newest_first (completed_of w ∷ done) ws

abbrev pub records_of : List Declared → List Whole → Records
records_of declared whole = record { declared = map (λ d. d.kind) declared; done = newest_first [] whole }

-- where the record at a place stands among the completed ones
abbrev pub completion_of : List Declared → ℕ → Option ℕ
completion_of declared n = option_and_then (λ d. d.completion) (slice_get declared n)

-- what is kept of a record is that of its place, and its layout
pub record Holds (done : List Completed) (n : ℕ) (w : Whole) : Type 0 where
  pub is : completed_at done n ≡ Some (completed_of w)
  pub size : w.size ≡ (record_layout done n).size
  pub alignment : w.alignment ≡ (record_layout done n).alignment
  pub offsets : w.offsets.items ≡ (record_layout done n).offsets

abbrev pub Stands : List Whole → List Completed → ℕ → Option ℕ → Type 0
Stands whole done n None = completed_at done n ≡ None
Stands whole done n (Some i) = MatchOption (slice_get whole i) ⊥ (Holds done n)

abbrev pub IsKept : List Declared → List Whole → Type 0
IsKept declared whole = ((n : ℕ) → Stands whole (records_of declared whole).done n (completion_of declared n))
    × IsBuilt (records_of declared whole).done

-- what is computed of a struct or union is that of its layout
pub record Extends (layout : Layout) (e : Extent) : Type 0 where
  pub size : e.size ≡ layout.size
  pub alignment : e.alignment ≡ layout.alignment
  pub offsets : e.offsets.items ≡ layout.offsets

-- its members up to one: what is added to them
pub record Adds (done : List Completed) (m : CType) (old new : Filled) : Type 0 where
  pub sized : is_sized done m ≡ true
  pub end : new.end ≡ padded old.end (alignment_of done m) + size_of done m
  pub small : new.end ≤ most_bytes
  pub alignment : new.alignment ≡ max old.alignment (alignment_of done m)
  pub offsets : new.offsets.items ≡ old.offsets.items ++ padded old.end (alignment_of done m) ∷ []

-- why one more isn't added
abbrev pub RefusesMember : List Completed → CType → Filled → LayoutError → Type 0
RefusesMember done m old Incomplete = ⊥
RefusesMember done m old NoElements = ⊥
RefusesMember done m old TooLarge = is_sized done m ≡ true → most_bytes < padded old.end (alignment_of done m) + size_of done m
RefusesMember done m old Memory = Unit {0}

abbrev pub RefusesSize : List Completed → RecordKind → List CType → LayoutError → Type 0
RefusesSize done kind ms Incomplete = ⊥
RefusesSize done kind ms NoElements = ⊥
RefusesSize done kind ms TooLarge = fits done kind ms ≡ false
RefusesSize done kind ms Memory = Unit {0}

-- the record at a place is completed, of that kind and with those members
abbrev pub IsRecord : List Completed → ℕ → RecordKind → List CType → Type 0
IsRecord done n kind ms = MatchOption (completed_at done n) ⊥ (λ c. (c.kind ≡ kind) × (c.members ≡ ms))

-- each of these cells ends within so many bytes
abbrev pub Within : ℕ → List Cell → Type 0
Within bytes [] = Unit {0}
Within bytes (c ∷ cs) = (c.offset + c.size ≤ bytes) × Within bytes cs
