-- Members, parameters and what specifiers say so far (C11 6.7, 6.7.2.1, 6.7.6).
use Rattle.std.specs.Prelude.{ℕ, ◌++◌, ◌||◌, ◌&&◌, Bool, true, false, List, [], ◌∷◌, length, not, is_some, Option, Some, None, Result, Ok, Err, if◌then◌else◌}
use Rattle.c_tree.specs.declared.declaration.StorageClass.{StorageClass}
use Rattle.c_tree.specs.declared.declaration.StorageClass.TheVariants as storage_classes
use Rattle.c_tree.specs.declared.specifier.TagKind.{TagKind}
use Rattle.c_tree.specs.Tree.{TypePart, qualified, word, tagged, typedef_name}
use Rattle.c_tree.specs.Declarations.{Part, type_part, storage, function, structure, enumeration, Parts, no_part, part, Full, Fulls, no_full, full, Parameters, no_parameter, parameter, Declarators, none_declared, declarator, name_of, full_has_name, parts_line}
use Rattle.c_types.specs.declared.types.RecordKind.{RecordKind}
use Rattle.c_types.specs.Types.{CType, Completed}
use Rattle.c_scope.specs.declared.members.Field.{Field as CodeField}
use Rattle.c_scope.specs.Members.{Field, view_fields}
use Rattle.c_scope.specs.Scopes.{Named, Scoped}
use Rattle.c_scope.specs.Faults.{◌>>=◌, Fault, on_line}
use Rattle.c_scope.specs.declared.specifiers.Specified.{Specified}
use Rattle.c_scope.specs.Types.{Said, view_specified, nothing_specified, with_type, with_part, specified_type, array_of, element_type}
use Rattle.c_elab_base.specs.declared.regions.Region.{Region}
use Rattle.c_elab_base.specs.declared.regions.Role.{Role}
use Rattle.c_elab_base.specs.declared.regions.Role.TheVariants as roles
use Rattle.c_elab_base.specs.Regions.{earlier, earlier_tag}
use Rattle.c_elab_base.specs.Names.{among, with_name}
use Rattle.c_elab_base.specs.Derivations.{Parameter, Derived, counted, called, Derivation, lengths, callable, derivation, full_line, parameter_line, is_void}
use Rattle.c_elab_base.specs.Declarators.{complete_type, sized_type, with_variable}
use Rattle.c_elab_base.specs.Tags.{tag_named, forward_tag, Opened, reopened, closed}

-- ---- members

-- the members of a struct or union so far, their names and those of the members of its anonymous structs and unions, and the scope
pub record Fields : Type 0 where
  pub fields : List Field
  pub names : List (List ℕ)
  pub scope : Scoped

abbrev pub with_field : Fields → Option (List ℕ) → Named → Fields
with_field f name n = record f { fields = f.fields ++ record { name = name; type = n.type; constant = n.constant } ∷ [] }

-- rule 2: names differ; rule 3: a member's type is complete (C11 6.7.2.1p3)
abbrev pub member_node : List Completed → Bool → Result CType ℕ → Result CType ℕ
member_node done true made = Err 2
member_node done false made = made >>= complete_type done

-- rule 3: a member is no function
abbrev pub member_made : List Completed → CType → Derivation → Result CType ℕ
member_made done base (lengths ls) = array_of done base ls
member_made done base (callable (Ok f)) = Err 3
member_made done base (callable (Err rule)) = Err rule

abbrev pub member_type : Named → List (List ℕ) → Scoped → Full → List Derived → Result CType Fault
member_type base names s d ds =
    on_line (full_line d) (member_node s.records.done (among names (name_of d)) (member_made s.records.done base.type (derivation s.functions s.records.done base ds)))

-- a member, in the scope behind its declarator, whose suffixes say this
abbrev pub with_member : Named → Fields → Full → List Derived → Result Fields Fault
with_member base f d ds = do
  t ← member_type base f.names f.scope d ds
  Ok (with_field (record f { names = with_name f.names (name_of d) }) (Some (name_of d)) (record { type = t; constant = base.constant }))

-- a struct or union without a tag
abbrev pub is_untagged : Part → Bool
is_untagged (type_part p) = false
is_untagged (storage line class) = false
is_untagged (function line w) = false
is_untagged (structure line kind None ms) = true
is_untagged (structure line kind (Some tag) ms) = false
is_untagged (enumeration line tag es) = false

abbrev pub has_untagged : Parts → Bool
has_untagged no_part = false
has_untagged (part first rest) = is_untagged first || has_untagged rest

abbrev pub is_none : Fulls → Bool
is_none no_full = true
is_none (full d ds) = false

-- Without a declarator a struct or union that has no tag is an anonymous member (C11 6.7.2.1p13), and nothing else declares one.
abbrev pub with_anonymous : Bool → Named → Fields → Fields
with_anonymous b n f = if b then with_field f None n else f

-- an anonymous struct or union, whose members have the names that those around it have
abbrev pub is_anonymous : Bool → Option (List ℕ) → Bool
is_anonymous alone None = alone
is_anonymous alone (Some tag) = false

abbrev pub names_within : Bool → List (List ℕ) → List (List ℕ)
names_within anonymous names = if anonymous then names else []

abbrev pub names_behind : Bool → List (List ℕ) → List (List ℕ) → List (List ℕ)
names_behind anonymous inner names = if anonymous then inner else names

-- ---- specifiers

-- what specifiers say so far, the names of the members around them, and the scope
pub record Parted : Type 0 where
  pub specified : Said
  pub names : List (List ℕ)
  pub scope : Scoped

-- a type that is named by a tag or braces
abbrev pub with_named : Parted → Result Named ℕ × Scoped → Parted
with_named p x = record p { specified = with_type p.specified x.0; scope = x.1 }

abbrev pub with_type_part : Parted → TypePart → Parted
with_type_part p (qualified line q) = record p { specified = with_part p.scope p.specified (qualified line q) }
with_type_part p (word line w) = record p { specified = with_part p.scope p.specified (word line w) }
with_type_part p (tagged line kind name) = with_named p (tag_named p.scope kind name)
with_type_part p (typedef_name line name) = record p { specified = with_part p.scope p.specified (typedef_name line name) }

-- the members in braces
abbrev pub fields_within : Bool → List (List ℕ) → Scoped → Fields
fields_within anonymous names s = record { fields = []; names = names_within anonymous names; scope = s }

abbrev pub fields_out : Bool → List (List ℕ) → Result Fields Fault → Result Fields Fault
fields_out anonymous names fields = do
  f ← fields
  Ok (record f { names = names_behind anonymous f.names names })

-- the struct or union behind them
abbrev pub with_members : Parted → Opened → RecordKind → Result Fields Fault → Result Parted Fault
with_members p o kind fields = do
  f ← fields
  Ok (with_named (record p { names = f.names }) (closed (reopened o.place o.clashes kind f.scope) f.fields))

-- before the specifiers of members
abbrev pub said_before : Fields → Parted
said_before f = record { specified = nothing_specified; names = f.names; scope = f.scope }

-- behind them, with the type that they say
abbrev pub fields_behind : Fields → Parts → Fulls → Parted → Named → Fields
fields_behind f parts ds p n = with_anonymous (is_none ds && has_untagged parts) n (record { fields = f.fields; names = p.names; scope = p.scope })

-- ---- parameters

-- what a declarator's suffixes say, and the scope behind them
abbrev pub Derivations : Type 0
Derivations = Result (List Derived × Scoped) Fault

-- parameters so far, and the scope
pub record Passed : Type 0 where
  pub parameters : List Parameter
  pub scope : Scoped

-- A parameter has a complete type (rule 3), and is no array and no function so far (rule 7). Void alone is none, and that among
-- several is one of their function's faults.
abbrev pub plain_parameter : List Completed → Bool → CType → Result CType ℕ
plain_parameter done several t = if is_void t && several then Ok t else sized_type done t

abbrev pub array_parameter : List Completed → CType → List (Option ℕ) → Result CType ℕ
array_parameter done base [] = Err 7
array_parameter done base (None ∷ ns) = do
  t ← element_type done base ns
  u ← complete_type done t
  Err 7
array_parameter done base (Some n ∷ ns) = do
  t ← array_of done base (Some n ∷ ns)
  Err 7

abbrev pub parameter_made : List Completed → Bool → CType → Derivation → Result CType ℕ
parameter_made done several base (lengths []) = plain_parameter done several base
parameter_made done several base (lengths (n ∷ ns)) = array_parameter done base (n ∷ ns)
parameter_made done several base (callable (Ok f)) = Err 7
parameter_made done several base (callable (Err rule)) = Err rule

-- rule 2: parameters have different names
abbrev pub parameter_node : Bool → Result CType ℕ → Result CType ℕ
parameter_node true made = Err 2
parameter_node false made = made

-- its name is declared behind it (C11 6.2.1p7); void is no variable
abbrev pub declared_parameter : Bool → Scoped → List ℕ → Named → Scoped
declared_parameter named s name n = if named && not (is_void n.type) then with_variable s name n else s

abbrev pub with_parameter : Passed → List ℕ → Named → Scoped → Passed
with_parameter p name n s = record { parameters = p.parameters ++ record { name = name; type = n } ∷ []; scope = s }

-- a parameter whose specifiers say this type and whose suffixes say that, among several or alone
abbrev pub judged_parameter : Region → Bool → Passed → Parts → Named → Full → Derivations → Result Passed Fault
judged_parameter r several p parts base d suffixes = do
  x ← suffixes
  t ← on_line (parameter_line parts d) (parameter_node (full_has_name d && is_some (earlier r x.1 (name_of d))) (parameter_made x.1.records.done several base.type (derivation x.1.functions x.1.records.done base x.0)))
  Ok (with_parameter p (name_of d) (record { type = t; constant = base.constant }) (declared_parameter (full_has_name d) x.1 (name_of d) (record { type = t; constant = base.constant })))

-- several parameters
abbrev pub are_several : Parameters → Bool
are_several no_parameter = false
are_several (parameter parts d no_parameter) = false
are_several (parameter parts d (parameter others e rest)) = true

-- names and variables of parameters end with them (C11 6.2.1p4)
abbrev pub ended : Scoped → Scoped → Scoped
ended outer s = record s { bindings = outer.bindings; variables = outer.variables }

-- a scope that begins here
abbrev pub inner_region : Scoped → Region
inner_region s = record { outer = length s.bindings; is_file = false }

abbrev pub parted : List (List ℕ) → Scoped → Parted
parted names s = record { specified = nothing_specified; names = names; scope = s }

-- the type that specifiers say, and the scope behind them
abbrev pub named_parts : Parts → Result Parted Fault → Result (Named × Scoped) Fault
named_parts parts specifiers = do
  p ← specifiers
  n ← on_line (parts_line parts) (specified_type p.specified)
  Ok (n, p.scope)

-- an array's suffix in front of others
abbrev pub counted_in_front : Option ℕ → Derivations → Derivations
counted_in_front n rest = rest >>= λ x. Ok (counted n ∷ x.0, x.1)

abbrev pub called_in_front : List Parameter → Bool → Derivations → Derivations
called_in_front ps ellipsis rest = rest >>= λ x. Ok (called ps ellipsis ∷ x.0, x.1)

-- ---- the specifiers of a declaration

-- what its storage word makes of its declarators: outside of functions each object lives as long as the program
abbrev pub role_of : Bool → List StorageClass → Role
role_of is_file [] = if is_file then roles.Static else roles.Automatic
role_of is_file (storage_classes.Typedef ∷ rest) = roles.Typedef
role_of is_file (storage_classes.Extern ∷ rest) = roles.Extern
role_of is_file (storage_classes.Static ∷ rest) = roles.Static
role_of is_file (storage_classes.Auto ∷ rest) = if is_file then roles.Static else roles.Automatic
role_of is_file (storage_classes.Register ∷ rest) = if is_file then roles.Static else roles.Automatic

-- a tag alone, without declarators
abbrev pub lone_part : Part → Option (TagKind × List ℕ)
lone_part (type_part (qualified line q)) = None
lone_part (type_part (word line w)) = None
lone_part (type_part (tagged line kind name)) = Some (kind, name)
lone_part (type_part (typedef_name line name)) = None
lone_part (storage line class) = None
lone_part (function line w) = None
lone_part (structure line kind tag ms) = None
lone_part (enumeration line tag es) = None

abbrev pub lone_tag : Parts → Declarators → Option (TagKind × List ℕ)
lone_tag no_part ds = None
lone_tag (part first (part second rest)) ds = None
lone_tag (part first no_part) none_declared = lone_part first
lone_tag (part first no_part) (declarator d i rest) = None

abbrev pub with_lone : Region → Scoped → Option (TagKind × List ℕ) → Scoped
with_lone r s None = s
with_lone r s (Some tag) = forward_tag s tag.0 tag.1 (earlier_tag r s tag.1)

-- ---- what code holds

abbrev pub view_parted : Specified → List (List ℕ) → Scoped → Parted
view_parted specified names s = record { specified = view_specified specified; names = names; scope = s }

abbrev pub view_typed : List CodeField → List (List ℕ) → Scoped → Fields
view_typed fields names s = record { fields = view_fields fields; names = names; scope = s }
