-- The members that `.` finds in structs and unions by their names (C11 6.5.2.3, 6.7.2.1p13).
use Rattle.std.specs.Prelude.{ℕ, suc, ◌+◌, Bool, false, ◌||◌, List, [], ◌∷◌, ◌++◌, map, get_or, slice_get, Option, Some, None, option_map, Vec, if◌then◌else◌, refl}
use Rattle.std.specs.Option.{option_and_then}
use Rattle.std.specs.List.{list_any}
use Rattle.std.specs.Str.{bytes_eq}
use Rattle.std.specs.Coded.{Coded, code_by, coded_ℕ, coded_bool, coded_list, coded×}
use Rattle.std.specs.Global.{Global}
use Rattle.c_types.specs.Types.{CType, void, integer, aggregate, array, pointer, function, Completed, view}
use Rattle.c_types.specs.Layouts.{record_layout, members_of}
use Rattle.c_scope.specs.declared.members.Field.{Field as CodeField}
use Rattle.c_scope.specs.declared.members.Way.{Way}
use Rattle.c_scope.specs.declared.members.MemberTable.{MemberTable}

-- ---- members as they are declared

-- its name, which an anonymous struct or union hasn't, its type, and whether it is const
pub record Field : Type 0 where
  pub name : Option (List ℕ)
  pub type : CType
  pub constant : Bool

abbrev pub view_field : CodeField → Field
view_field f = record { name = option_map (λ n. n.items) f.name; type = view f.type_; constant = f.constant }

abbrev pub view_fields : List CodeField → List Field
view_fields fs = map view_field fs

abbrev pub field_types : List Field → List CType
field_types fs = map (λ f. f.type) fs

-- ---- members by their names

-- a name that `.` finds in a struct or union: by number, the outermost first, the members on the way, all anonymous but the
-- last, and whether one of them is const
pub record Member : Type 0 where
  pub name : List ℕ
  pub path : List ℕ
  pub constant : Bool

-- the names that `.` finds in a struct or union, and whether a member of it or of one within it is const
pub record Members : Type 0 where
  pub named : List Member
  pub constant : Bool

abbrev pub no_members : Members
no_members = record { named = []; constant = false }

-- those of a type, by those of the structs and unions, by place
abbrev pub members_in : List Members → CType → Members
members_in all void = no_members
members_in all (integer t) = no_members
members_in all (aggregate p) = get_or all p no_members
members_in all (array element n) = record { named = []; constant = (members_in all element).constant }
members_in all (pointer t c) = no_members
members_in all (function f) = no_members

-- a member of an anonymous one
abbrev pub through : ℕ → Bool → Member → Member
through i constant m = record { name = m.name; path = i ∷ m.path; constant = constant || m.constant }

-- A member is found by its name, and the members of an anonymous one by theirs (C11 6.7.2.1p13).
abbrev pub ways_of : List Members → ℕ → Option (List ℕ) → CType → Bool → List Member
ways_of all i (Some name) type constant = record { name = name; path = i ∷ []; constant = constant } ∷ []
ways_of all i None type constant = map (through i constant) (members_in all type).named

abbrev pub among : List Member → List ℕ → Bool
among ms name = list_any (λ m. bytes_eq name m.name) ms

-- a name is that of the first member that has it
abbrev pub with_member : List Member → Member → List Member
with_member ms m = if among ms m.name then ms else ms ++ m ∷ []

abbrev pub with_members : List Member → List Member → List Member
with_members ms [] = ms
with_members ms (n ∷ ns) = with_members (with_member ms n) ns

-- of members from a number on
abbrev pub named_from : List Members → List Member → ℕ → List Field → List Member
named_from all ms i [] = ms
named_from all ms i (f ∷ fs) = named_from all (with_members ms (ways_of all i f.name f.type f.constant)) (suc i) fs

-- C11 6.3.2.1p1
abbrev pub has_constant : List Members → List Field → Bool
has_constant all [] = false
has_constant all (f ∷ fs) = (f.constant || (members_in all f.type).constant) || has_constant all fs

-- those of a struct or union with these members
abbrev pub members_by : List Members → List Field → Members
members_by all fs = record { named = named_from all [] 0 fs; constant = has_constant all fs }

-- ---- where members lie

-- the path of a name, and whether a member on it is const
abbrev pub found : List Member → List ℕ → Option (List ℕ × Bool)
found [] name = None
found (m ∷ ms) name = if bytes_eq name m.name then Some (m.path, m.constant) else found ms name

-- a member by its number: its type, and its offset
abbrev pub member_in : List Completed → CType → ℕ → Option (CType × ℕ)
member_in done void i = None
member_in done (integer t) i = None
member_in done (aggregate p) i = option_and_then (λ t. option_map (λ o. (t, o)) (slice_get (record_layout done p).offsets i)) (slice_get (members_of done p) i)
member_in done (array element n) i = None
member_in done (pointer t c) i = None
member_in done (function f) i = None

-- the offset and the type of the object at the end of a path of members, from an object at an offset on
abbrev pub part_at : List Completed → ℕ → CType → List ℕ → Option (ℕ × CType)
part_at done offset t [] = Some (offset, t)
part_at done offset t (i ∷ path) = option_and_then (λ m. part_at done (offset + m.1) m.0 path) (member_in done t i)

-- ---- what code holds

abbrev pub view_way : Vec ℕ Global × Way → Member
view_way e = record { name = e.0.items; path = e.1.path.items; constant = e.1.constant }

abbrev pub view_ways : List (Vec ℕ Global × Way) → List Member
view_ways entries = map view_way entries

abbrev pub view_members : MemberTable → Members
view_members t = record { named = view_ways t.ways.entries; constant = t.constant }

-- the names of a table, if there is one
abbrev pub named_of : Option Members → List Member
named_of None = []
named_of (Some m) = m.named

abbrev pub view_tables : List MemberTable → List Members
view_tables tables = map view_members tables

-- ---- codes, by which proofs tell these apart

abbrev pub coded_member : Coded Member
coded_member = code_by (List ℕ × (List ℕ × Bool)) (coded× (coded_list coded_ℕ) (coded× (coded_list coded_ℕ) coded_bool))
    (λ m. (m.name, (m.path, m.constant))) (λ p. record { name = p.0; path = p.1.0; constant = p.1.1 }) (λ _. refl)

abbrev pub coded_members : Coded Members
coded_members = code_by (List Member × Bool) (coded× (coded_list coded_member) coded_bool) (λ m. (m.named, m.constant)) (λ p. record { named = p.0; constant = p.1 }) (λ _. refl)
