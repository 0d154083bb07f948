-- Sizes, alignments, offsets and cells of types (C11 6.7.2.1; System V ABI for AMD64, section 3.1.2).
use Rattle.std.specs.Prelude.{ℕ, zero, suc, ◌≡◌, ◌==◌, ◌+◌, ◌-◌, ◌*◌, ◌%◌, ◌≤◌, ◌<◌, max, nat_le, Bool, true, false, ◌&&◌, if◌then◌else◌, List, [], ◌∷◌, ◌++◌, get_or, Option, Some, None}
use Rattle.c_types.specs.declared.types.RecordKind.{RecordKind}
use Rattle.c_types.specs.declared.types.RecordKind.TheVariants.{Struct, Union}
use Rattle.c_types.specs.declared.types.Cell.{Cell}
use Rattle.c_types.specs.declared.fault.LayoutError.{LayoutError}
use Rattle.c_types.specs.declared.fault.LayoutError.TheVariants.{Incomplete, NoElements, TooLarge, Memory}
use Rattle.c_types.specs.Integers.{bytes}
use Rattle.c_types.specs.Types.{CType, void, integer, aggregate, array, pointer, function, Completed, Records}

-- no type has more bytes
abbrev pub most_bytes : ℕ
most_bytes = 2147483647

-- the bytes of a pointer, and its alignment (System V ABI for AMD64, figure 3.1)
abbrev pub pointer_bytes : ℕ
pointer_bytes = 8

-- how a struct or union lies in memory: its size and alignment in bytes, the offsets of its members in
-- order, and its scalars in order of offset
pub record Layout : Type 0 where
  pub size : ℕ
  pub alignment : ℕ
  pub offsets : List ℕ
  pub cells : List Cell

-- ---- a type, by the layouts of the structs and unions within it

-- an array is its elements one behind the other (C11 6.2.5p20), and what a pointer points to is no part of it; what is
-- incomplete, or a function, has no bytes
abbrev pub size_with : (ℕ → Layout) → CType → ℕ
size_with r void = 0
size_with r (integer t) = bytes t
size_with r (aggregate n) = (r n).size
size_with r (array e k) = k * size_with r e
size_with r (pointer t c) = pointer_bytes
size_with r (function f) = 0

-- an array is aligned as its element
abbrev pub alignment_with : (ℕ → Layout) → CType → ℕ
alignment_with r void = 1
alignment_with r (integer t) = bytes t
alignment_with r (aggregate n) = (r n).alignment
alignment_with r (array e k) = alignment_with r e
alignment_with r (pointer t c) = pointer_bytes
alignment_with r (function f) = 1

-- these cells, so many bytes further on
abbrev pub shifted : ℕ → List Cell → List Cell
shifted by [] = []
shifted by (c ∷ cs) = record { offset = by + c.offset; size = c.size } ∷ shifted by cs

-- the cells of each of so many elements of that size
abbrev pub repeated : ℕ → ℕ → List Cell → List Cell
repeated zero size cells = []
repeated (suc k) size cells = repeated k size cells ++ shifted (k * size) cells

abbrev pub cells_with : (ℕ → Layout) → CType → List Cell
cells_with r void = []
cells_with r (integer t) = record { offset = 0; size = bytes t } ∷ []
cells_with r (aggregate n) = (r n).cells
cells_with r (array e k) = repeated k (size_with r e) (cells_with r e)
cells_with r (pointer t c) = record { offset = 0; size = pointer_bytes } ∷ []
cells_with r (function f) = []

-- ---- a struct or union, by its members

-- the least multiple of an alignment at or above an offset
abbrev pub padded : ℕ → ℕ → ℕ
padded offset alignment = if offset % alignment == 0 then offset else offset + (alignment - offset % alignment)

-- a multiple of the alignment, not below the offset, and none between
abbrev pub IsLeastMultiple : ℕ → ℕ → ℕ → Type 0
IsLeastMultiple offset alignment p = (k : ℕ) × (p ≡ k * alignment) × (offset ≤ p) × (p < offset + alignment)

-- the greatest alignment of the members is the record's, at least one byte
abbrev pub greatest_alignment : (ℕ → Layout) → List CType → ℕ
greatest_alignment r [] = 1
greatest_alignment r (m ∷ ms) = max (alignment_with r m) (greatest_alignment r ms)

-- each member of a struct lies at the next multiple of its alignment (C11 6.7.2.1p14, p15)
abbrev pub struct_offsets : (ℕ → Layout) → ℕ → List CType → List ℕ
struct_offsets r from [] = []
struct_offsets r from (m ∷ ms) = padded from (alignment_with r m) ∷ struct_offsets r (padded from (alignment_with r m) + size_with r m) ms

-- where the last member ends
abbrev pub struct_end : (ℕ → Layout) → ℕ → List CType → ℕ
struct_end r from [] = from
struct_end r from (m ∷ ms) = struct_end r (padded from (alignment_with r m) + size_with r m) ms

abbrev pub struct_cells : (ℕ → Layout) → ℕ → List CType → List Cell
struct_cells r from [] = []
struct_cells r from (m ∷ ms) = shifted (padded from (alignment_with r m)) (cells_with r m) ++ struct_cells r (padded from (alignment_with r m) + size_with r m) ms

-- a union is large enough for the largest of its members (C11 6.7.2.1p16), which all begin at 0
abbrev pub greatest_size : (ℕ → Layout) → List CType → ℕ
greatest_size r [] = 0
greatest_size r (m ∷ ms) = max (size_with r m) (greatest_size r ms)

-- the cells of the first member of that size
abbrev pub cells_of_size : (ℕ → Layout) → ℕ → List CType → List Cell
cells_of_size r size [] = []
cells_of_size r size (m ∷ ms) = if size_with r m == size then cells_with r m else cells_of_size r size ms

abbrev pub zeros : List CType → List ℕ
zeros [] = []
zeros (m ∷ ms) = 0 ∷ zeros ms

-- there may be padding at the end (C11 6.7.2.1p17): the size is a multiple of the alignment
abbrev pub layout_of : (ℕ → Layout) → RecordKind → List CType → Layout
layout_of r Struct ms = record {
  size = padded (struct_end r 0 ms) (greatest_alignment r ms);
  alignment = greatest_alignment r ms;
  offsets = struct_offsets r 0 ms;
  cells = struct_cells r 0 ms;
}
layout_of r Union ms = record {
  size = padded (greatest_size r ms) (greatest_alignment r ms);
  alignment = greatest_alignment r ms;
  offsets = zeros ms;
  cells = cells_of_size r (greatest_size r ms) ms;
}

abbrev pub no_layout : Layout
no_layout = record { size = 0; alignment = 1; offsets = []; cells = [] }

-- the layout of the struct or union at a place, by those completed before it
abbrev pub record_layout : List Completed → ℕ → Layout
record_layout [] n = no_layout
record_layout (c ∷ older) n = if c.place == n then layout_of (record_layout older) c.kind c.members else record_layout older n

-- ---- types of a file

abbrev pub completed_at : List Completed → ℕ → Option Completed
completed_at [] n = None
completed_at (c ∷ older) n = if c.place == n then Some c else completed_at older n

abbrev pub is_completed : List Completed → ℕ → Bool
is_completed [] n = false
is_completed (c ∷ older) n = if c.place == n then true else is_completed older n

-- whether a type is that of complete objects (C11 6.2.5p1, p19, p22): a pointer's is, whatever it points to, and a function's isn't
abbrev pub is_complete : List Completed → CType → Bool
is_complete done void = false
is_complete done (integer t) = true
is_complete done (aggregate n) = is_completed done n
is_complete done (array e k) = is_complete done e
is_complete done (pointer t c) = true
is_complete done (function f) = false

abbrev pub are_complete : List Completed → List CType → Bool
are_complete done [] = true
are_complete done (m ∷ ms) = is_complete done m && are_complete done ms

abbrev pub size_of : List Completed → CType → ℕ
size_of done t = size_with (record_layout done) t

abbrev pub alignment_of : List Completed → CType → ℕ
alignment_of done t = alignment_with (record_layout done) t

abbrev pub cells_of : List Completed → CType → List Cell
cells_of done t = cells_with (record_layout done) t

-- whether no array within a type has too many bytes
abbrev pub is_sized : List Completed → CType → Bool
is_sized done void = true
is_sized done (integer t) = true
is_sized done (aggregate n) = true
is_sized done (array e k) = is_sized done e && nat_le (k * size_of done e) most_bytes
is_sized done (pointer t c) = true
is_sized done (function f) = true

abbrev pub are_sized : List Completed → List CType → Bool
are_sized done [] = true
are_sized done (m ∷ ms) = is_sized done m && are_sized done ms

-- whether neither a struct or union of these members nor anything within has too many bytes
abbrev pub fits : List Completed → RecordKind → List CType → Bool
fits done kind ms = are_sized done ms && nat_le (layout_of (record_layout done) kind ms).size most_bytes

-- each was completed once, with complete members, and not too large
abbrev pub IsBuilt : List Completed → Type 0
IsBuilt [] = Unit {0}
IsBuilt (c ∷ older) = (is_completed older c.place ≡ false) × (are_complete older c.members ≡ true) × (fits older c.kind c.members ≡ true) × IsBuilt older

-- the records once the one at a place is completed
abbrev pub with_completed : Records → ℕ → RecordKind → List CType → Records
with_completed t n kind ms = record { declared = t.declared; done = record { place = n; kind = kind; members = ms } ∷ t.done }

abbrev pub kind_at : Records → ℕ → RecordKind
kind_at t n = get_or t.declared n Struct

-- the types of the members of a record, none where it is incomplete
abbrev pub members_of : List Completed → ℕ → List CType
members_of [] n = []
members_of (c ∷ older) n = if c.place == n then c.members else members_of older n

-- why no struct or union of these members is completed; an incomplete member is told before memory is wanting
abbrev pub Refuses : List Completed → RecordKind → List CType → LayoutError → Type 0
Refuses done kind ms Incomplete = are_complete done ms ≡ false
Refuses done kind ms NoElements = ⊥
Refuses done kind ms TooLarge = (are_complete done ms ≡ true) × (fits done kind ms ≡ false)
Refuses done kind ms Memory = are_complete done ms ≡ true

-- why there is no array of so many of these elements; each of the others is told before memory is wanting
abbrev pub RefusesArray : List Completed → CType → ℕ → LayoutError → Type 0
RefusesArray done element length Incomplete = is_complete done element ≡ false
RefusesArray done element length NoElements = length ≡ 0
RefusesArray done element length TooLarge = is_sized done (array element length) ≡ false
RefusesArray done element length Memory = (is_complete done element ≡ true) × (1 ≤ length) × (is_sized done (array element length) ≡ true)
