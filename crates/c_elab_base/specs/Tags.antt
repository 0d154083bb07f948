-- Tags, and the structs and unions that they are about (C11 6.7.2.1, 6.7.2.3).
use Rattle.std.specs.Prelude.{ℕ, ◌++◌, Bool, true, false, List, [], ◌∷◌, length, slice_set, Option, Some, None, Result, Ok, Err, if◌then◌else◌}
use Rattle.c_tree.specs.declared.specifier.TagKind.{TagKind}
use Rattle.c_tree.specs.declared.specifier.TagKind.TheVariants as tag_kinds
use Rattle.c_tree.specs.declared.declaration.RecordKind.{RecordKind as TreeKind}
use Rattle.c_tree.specs.declared.declaration.RecordKind.TheVariants as tree_kinds
use Rattle.c_types.specs.declared.integers.IntegerType.TheVariants as types
use Rattle.c_types.specs.declared.types.RecordKind.{RecordKind}
use Rattle.c_types.specs.declared.types.RecordKind.TheVariants.{Struct, Union}
use Rattle.c_types.specs.Types.{CType, integer, aggregate, Records}
use Rattle.c_types.specs.Layouts.{is_completed, are_complete, fits, with_completed, kind_at}
use Rattle.c_scope.specs.declared.meaning.Meaning.{Meaning}
use Rattle.c_scope.specs.declared.meaning.Meaning.TheVariants.{Record, Enumeration}
use Rattle.c_scope.specs.declared.fault.Broken.{Broken}
use Rattle.c_scope.specs.declared.scope.QualifiedType.{QualifiedType}
use Rattle.c_scope.specs.Members.{Field, field_types, no_members, members_by}
use Rattle.c_scope.specs.Scopes.{binding, Named, plain, Scoped, view_named, tag_of}
use Rattle.c_scope.specs.Types.{tag_type}
use Rattle.c_scope.specs.Faults.{GivesNode}
use Rattle.c_elab_base.specs.declared.regions.Region.{Region}
use Rattle.c_elab_base.specs.declared.tagging.Braces.{Braces}
use Rattle.c_elab_base.specs.Regions.{earlier_tag}

abbrev pub kind_of : TreeKind → RecordKind
kind_of tree_kinds.Struct = Struct
kind_of tree_kinds.Union = Union

abbrev pub is_kind : RecordKind → RecordKind → Bool
is_kind Struct Struct = true
is_kind Struct Union = false
is_kind Union Struct = false
is_kind Union Union = true

-- one more struct or union, incomplete so far
abbrev pub with_record : Scoped → RecordKind → Scoped
with_record s kind = record s {
  records = record { declared = s.records.declared ++ kind ∷ []; done = s.records.done };
  members = s.members ++ no_members ∷ [];
}

abbrev pub with_tag : Scoped → List ℕ → Meaning → Scoped
with_tag s name m = record s { bindings = binding name m ∷ s.bindings }

-- and its tag
abbrev pub with_tagged : Scoped → RecordKind → List ℕ → Scoped
with_tagged s kind name = with_tag (with_record s kind) name (Record (length s.records.declared))

-- ---- a tag without braces, in a declaration

abbrev pub next_record : Scoped → Named
next_record s = plain (aggregate (length s.records.declared))

-- a tag without a declaration in scope declares a struct or union (C11 6.7.2.3p8); rule 3: but no enumeration
abbrev pub new_tag : Scoped → TagKind → List ℕ → Result Named ℕ × Scoped
new_tag s tag_kinds.Struct name = (Ok (next_record s), with_tagged s Struct name)
new_tag s tag_kinds.Union name = (Ok (next_record s), with_tagged s Union name)
new_tag s tag_kinds.Enum name = (Err 3, s)

-- else it is the one that its innermost declaration says (C11 6.7.2.3p9)
abbrev pub found_tag : Scoped → TagKind → List ℕ → Option Meaning → Result Named ℕ × Scoped
found_tag s kind name None = new_tag s kind name
found_tag s kind name (Some m) = (tag_type s kind m, s)

abbrev pub tag_named : Scoped → TagKind → List ℕ → Result Named ℕ × Scoped
tag_named s kind name = found_tag s kind name (tag_of s.bindings name)

-- `struct tag;` alone declares the tag in this scope (C11 6.7.2.3p7)
abbrev pub forward_tag : Scoped → TagKind → List ℕ → Option Meaning → Scoped
forward_tag s kind name None = (new_tag s kind name).1
forward_tag s kind name (Some m) = s

-- ---- braces

-- which struct or union braces are about: its place, and whether its tag stands for something else in this scope
pub record Opened : Type 0 where
  pub place : ℕ
  pub clashes : Bool
  pub scope : Scoped

abbrev pub new_record : Bool → Scoped → RecordKind → Opened
new_record clash s kind = record { place = length s.records.declared; clashes = clash; scope = with_record s kind }

abbrev pub open_tag : Scoped → RecordKind → List ℕ → Option Meaning → Opened
open_tag s kind name None = record { place = length s.records.declared; clashes = false; scope = with_tagged s kind name }
open_tag s kind name (Some (Record p)) = if is_kind (kind_at s.records p) kind then record { place = p; clashes = false; scope = s } else new_record true s kind
open_tag s kind name (Some _) = new_record true s kind

-- the one that this scope has of the tag, or a new one; its tag is in scope within the braces (C11 6.2.1p7)
abbrev pub opened : Region → Scoped → RecordKind → Option (List ℕ) → Opened
opened r s kind None = new_record false s kind
opened r s kind (Some name) = open_tag s kind name (earlier_tag r s name)

-- behind the braces: where that one is complete already, the members are those of another one
abbrev pub reopened : ℕ → Bool → RecordKind → Scoped → Opened
reopened p clash kind s = if is_completed s.records.done p then new_record true s kind else record { place = p; clashes = clash; scope = s }

abbrev pub fitting : Result (Unit {0}) ℕ
fitting = Ok tt

-- rules 3 and 4: there is a member, and they are not too large together
abbrev pub members_fit : Records → ℕ → List CType → Result (Unit {0}) ℕ
members_fit rs p [] = Err 3
members_fit rs p (m ∷ ms) = if are_complete rs.done (m ∷ ms) then (if fits rs.done (kind_at rs p) (m ∷ ms) then fitting else Err 4) else Err 3

-- the struct or union, or the lowest rule; rule 18: its tag stands for something else, or it is completed twice
abbrev pub closed_type : Bool → ℕ → Result (Unit {0}) ℕ → Result Named ℕ
closed_type false p (Ok u) = Ok (plain (aggregate p))
closed_type true p (Ok u) = Err 18
closed_type clash p (Err rule) = Err rule

abbrev pub closed_scope : Opened → List Field → Result (Unit {0}) ℕ → Scoped
closed_scope o fs (Ok u) = record o.scope {
  records = with_completed o.scope.records o.place (kind_at o.scope.records o.place) (field_types fs);
  members = slice_set o.scope.members o.place (members_by o.scope.members fs);
}
closed_scope o fs (Err rule) = o.scope

abbrev pub completed : Opened → List Field → Result Named ℕ × Scoped
completed o fs = let fit = members_fit o.scope.records o.place (field_types fs) in (closed_type o.clashes o.place fit, closed_scope o fs fit)

abbrev pub already : Opened → Result Named ℕ × Scoped
already o = (Err 18, o.scope)

-- it is completed once
abbrev pub closed : Opened → List Field → Result Named ℕ × Scoped
closed o fs = if is_completed o.scope.records.done o.place then already o else completed o fs

-- ---- enumerations, which are of type int (C11 6.7.2.2p4)

-- the tag's scope begins behind the braces; rule 18: it has no other declaration in this scope
abbrev pub enumeration_tag : Scoped → List ℕ → Option Meaning → Result Named ℕ × Scoped
enumeration_tag s name None = (Ok (plain (integer types.Int)), with_tag s name Enumeration)
enumeration_tag s name (Some m) = (Err 18, s)

abbrev pub enumeration_closed : Region → Scoped → Option (List ℕ) → Result Named ℕ × Scoped
enumeration_closed r s None = (Ok (plain (integer types.Int)), s)
enumeration_closed r s (Some name) = enumeration_tag s name (earlier_tag r s name)

-- ---- what code answers

abbrev pub view_opened : Braces → Scoped → Opened
view_opened b s = record { place = b.place; clashes = b.clashes; scope = s }

-- the type that is named, or its rule, and the scope
abbrev pub GivesNamed : Result QualifiedType Broken → Result Named ℕ × Scoped → Type 0
GivesNamed named whole = GivesNode view_named named whole.0
