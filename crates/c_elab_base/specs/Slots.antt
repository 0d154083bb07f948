-- The objects that the items of braces initialize (C11 6.7.9p17).
use Rattle.std.specs.Prelude.{ℕ, ◌*◌, ◌==◌, nat_lt, Bool, true, Option, Some, None, if◌then◌else◌}
use Rattle.c_types.specs.declared.types.RecordKind.{RecordKind}
use Rattle.c_types.specs.declared.types.RecordKind.TheVariants.{Struct, Union}
use Rattle.c_types.specs.Types.{CType, void, integer, aggregate, array, pointer, function, Records}
use Rattle.c_types.specs.Layouts.{kind_at, size_of}
use Rattle.c_scope.specs.Members.{member_in}

-- ---- the objects that items initialize

-- a struct has an item for each member, and a union one for the first (C11 6.7.9p17)
abbrev pub has_item : RecordKind → ℕ → Bool
has_item Struct i = true
has_item Union i = i == 0

-- the type and the offset of the object that the item with a number is for, if there is one: a member or an element
abbrev pub slot : Records → CType → ℕ → Option (CType × ℕ)
slot rs void i = None
slot rs (integer t) i = None
slot rs (aggregate p) i = if has_item (kind_at rs p) i then member_in rs.done (aggregate p) i else None
slot rs (array element n) i = if nat_lt i n then Some (element, i * size_of rs.done element) else None
slot rs (pointer t c) i = None
slot rs (function f) i = None

-- its type, where one item more has none
abbrev pub slot_type : Option (CType × ℕ) → CType
slot_type None = void
slot_type (Some x) = x.0
