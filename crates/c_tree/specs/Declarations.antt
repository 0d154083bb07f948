-- Declarations, without where they lie in memory (C11 6.7).
use Rattle.std.specs.Prelude.{ℕ, ◌+◌, max, List, [], ◌∷◌, map, Bool, true, false, ◌||◌, Option, Some, None, option_map, if◌then◌else◌}
use Rattle.c_tree.specs.declared.expr.PointerMark.{PointerMark}
use Rattle.c_tree.specs.declared.specifier.Qualifier.{Qualifier}
use Rattle.c_tree.specs.declared.declaration.StorageClass.{StorageClass}
use Rattle.c_tree.specs.declared.declaration.StorageClass.TheVariants as storage_classes
use Rattle.c_tree.specs.declared.declaration.FunctionSpecifier.{FunctionSpecifier}
use Rattle.c_tree.specs.declared.declaration.RecordKind.{RecordKind}
use Rattle.c_tree.specs.declared.declaration.Specifier.{Specifier, Row_of-MemberDeclaration, end_of-MemberDeclaration, more_of-MemberDeclaration}
use Rattle.c_tree.specs.declared.declaration.Specifier as specifiers
use Rattle.c_tree.specs.declared.declaration.MemberDeclaration.{MemberDeclaration, Row_of-Specifier, end_of-Specifier, more_of-Specifier, Row_of-FullDeclarator, end_of-FullDeclarator, more_of-FullDeclarator}
use Rattle.c_tree.specs.declared.declaration.FullDeclarator.{FullDeclarator, Row_of-DeclaratorSuffix, end_of-DeclaratorSuffix, more_of-DeclaratorSuffix}
use Rattle.c_tree.specs.declared.declaration.FullDeclarator as declarators
use Rattle.c_tree.specs.declared.declaration.DeclaratorSuffix.{DeclaratorSuffix, Row_of-Parameter, end_of-Parameter, more_of-Parameter}
use Rattle.c_tree.specs.declared.declaration.DeclaratorSuffix as declarator_suffixes
use Rattle.c_tree.specs.declared.declaration.Parameter.{Parameter}
use Rattle.c_tree.specs.declared.declaration.Enumerator.{Enumerator}
use Rattle.c_tree.specs.declared.declaration.Initializer.{Initializer, Row_of-Initializer, end_of-Initializer, more_of-Initializer}
use Rattle.c_tree.specs.declared.declaration.Initializer as initializers
use Rattle.c_tree.specs.declared.declaration.InitDeclarator.{InitDeclarator}
use Rattle.c_tree.specs.Tree.{TypePart, Tree, view_name, view_type_part, view, boxed, depth, type_part_line}
use Rattle.c_tree.specs.Names.{Scope}
use Rattle.c_tree.specs.Spelling.{specifies_type}

-- `name` or `name = value` in an enumeration
pub record Enumerated : Type 0 where
  pub line : ℕ
  pub name : List ℕ
  pub value : Option Tree

mutual
  -- a declaration specifier, with the line of its keyword
  pub data Part : Type 0 where
    type_part : (part : TypePart) → Part
    storage : (line : ℕ) (class : StorageClass) → Part
    function : (line : ℕ) (specifier : FunctionSpecifier) → Part
    structure : (line : ℕ) (kind : RecordKind) (tag : Option (List ℕ)) (members : Members) → Part
    enumeration : (line : ℕ) (tag : Option (List ℕ)) (enumerators : List Enumerated) → Part

  pub data Parts : Type 0 where
    no_part : Parts
    part : (first : Part) (rest : Parts) → Parts

  pub data Members : Type 0 where
    no_member : Members
    members : (specifiers : Parts) (declarators : Fulls) (rest : Members) → Members

  -- a declarator: without a name, of a name, or of a declarator in parentheses, each with the suffixes behind it; or `*` with qualifiers before one
  pub data Full : Type 0 where
    full_unnamed : (suffixes : FullSuffixes) → Full
    full_named : (line : ℕ) (bytes : List ℕ) (suffixes : FullSuffixes) → Full
    full_inside : (line : ℕ) (inner : Full) (suffixes : FullSuffixes) → Full
    full_pointing : (line : ℕ) (qualifiers : List Qualifier) (inner : Full) → Full

  pub data Fulls : Type 0 where
    no_full : Fulls
    full : (first : Full) (rest : Fulls) → Fulls

  -- suffixes of arrays and of functions: `[bound]`, `[]`, `()`, `(void)` and `(parameters)`, with `...` behind them or not
  pub data FullSuffixes : Type 0 where
    full_end : FullSuffixes
    full_bounded : (line : ℕ) (bound : Tree) (rest : FullSuffixes) → FullSuffixes
    full_open : (line : ℕ) (rest : FullSuffixes) → FullSuffixes
    full_empty : (line : ℕ) (rest : FullSuffixes) → FullSuffixes
    full_void : (line : ℕ) (rest : FullSuffixes) → FullSuffixes
    full_parameters : (line : ℕ) (parameters : Parameters) (variadic : Bool) (rest : FullSuffixes) → FullSuffixes

  pub data Parameters : Type 0 where
    no_parameter : Parameters
    parameter : (specifiers : Parts) (declarator : Full) (rest : Parameters) → Parameters

mutual
  -- an expression, or items in braces
  pub data Initial : Type 0 where
    initial : (value : Tree) → Initial
    braces : (line : ℕ) (items : Initials) → Initial

  pub data Initials : Type 0 where
    no_initial : Initials
    initials : (first : Initial) (rest : Initials) → Initials

-- declarators with their initializers
pub data Declarators : Type 0 where
  none_declared : Declarators
  declarator : (declared : Full) (initializer : Option Initial) (rest : Declarators) → Declarators

abbrev pub view_enumerator : Enumerator → Enumerated
view_enumerator e = record { line = e.line; name = view_name e.name; value = option_map boxed e.value }

-- what stands behind pointers
abbrev pub full_behind : List PointerMark → Full → Full
full_behind [] d = d
full_behind (p ∷ ps) d = full_pointing p.line p.qualifiers.items (full_behind ps d)

abbrev mutual
  pub view_part : Specifier → Part
  view_part (specifiers.«Type» p) = type_part (view_type_part p)
  view_part (specifiers.Storage line class) = storage line class
  view_part (specifiers.Function line word) = function line word
  view_part (specifiers.Record' line kind tag shape ms) = structure line kind (option_map view_name tag) (view_members ms)
  view_part (specifiers.Enumeration line tag es) = enumeration line (option_map view_name tag) (map view_enumerator es.items)

  pub view_parts : {m : _} → Row_of-Specifier m → Parts
  view_parts end_of-Specifier = no_part
  view_parts (more_of-Specifier s rest) = part (view_part s) (view_parts rest)

  pub view_members : {m : _} → Row_of-MemberDeclaration m → Members
  view_members end_of-MemberDeclaration = no_member
  view_members (more_of-MemberDeclaration shape parts forms ds rest) = members (view_parts parts) (view_fulls ds) (view_members rest)

  pub view_full : FullDeclarator → Full
  view_full (declarators.Unnamed' pointers shape ss) = full_behind pointers.items (full_unnamed (view_full_suffixes ss))
  view_full (declarators.Named' pointers line n shape ss) = full_behind pointers.items (full_named line (view_name n) (view_full_suffixes ss))
  view_full (declarators.Inside' pointers line p d shape ss) = full_behind pointers.items (full_inside line (view_full d) (view_full_suffixes ss))

  pub view_fulls : {m : _} → Row_of-FullDeclarator m → Fulls
  view_fulls end_of-FullDeclarator = no_full
  view_fulls (more_of-FullDeclarator d rest) = full (view_full d) (view_fulls rest)

  -- a suffix in front of others
  pub view_full_suffix : DeclaratorSuffix → FullSuffixes → FullSuffixes
  view_full_suffix (declarator_suffixes.Bounded line e) rest = full_bounded line (view e.value) rest
  view_full_suffix (declarator_suffixes.Open line) rest = full_open line rest
  view_full_suffix (declarator_suffixes.Empty line) rest = full_empty line rest
  view_full_suffix (declarator_suffixes.Void line) rest = full_void line rest
  view_full_suffix (declarator_suffixes.Parameters' line shape ps variadic) rest = full_parameters line (view_parameters ps) variadic rest

  pub view_full_suffixes : {m : _} → Row_of-DeclaratorSuffix m → FullSuffixes
  view_full_suffixes end_of-DeclaratorSuffix = full_end
  view_full_suffixes (more_of-DeclaratorSuffix s rest) = view_full_suffix s (view_full_suffixes rest)

  pub view_parameters : {m : _} → Row_of-Parameter m → Parameters
  view_parameters end_of-Parameter = no_parameter
  view_parameters (more_of-Parameter shape parts d rest) = parameter (view_parts parts) (view_full d) (view_parameters rest)

-- the specifiers of a list
abbrev pub parts_of : List Specifier → Parts
parts_of [] = no_part
parts_of (s ∷ ss) = part (view_part s) (parts_of ss)

-- the suffixes of a list
abbrev pub full_suffixes_of : List DeclaratorSuffix → FullSuffixes
full_suffixes_of [] = full_end
full_suffixes_of (s ∷ ss) = view_full_suffix s (full_suffixes_of ss)

-- the declarators of a list
abbrev pub fulls_of : List FullDeclarator → Fulls
fulls_of [] = no_full
fulls_of (d ∷ ds) = full (view_full d) (fulls_of ds)

-- a parameter in front of others
abbrev pub view_parameter : Parameter → Parameters → Parameters
view_parameter p rest = parameter (parts_of p.specifiers.items) (view_full p.declarator) rest

-- the parameters of a list
abbrev pub parameters_of : List Parameter → Parameters
parameters_of [] = no_parameter
parameters_of (p ∷ ps) = view_parameter p (parameters_of ps)

-- a declaration of members in front of others
abbrev pub view_member : MemberDeclaration → Members → Members
view_member m rest = members (parts_of m.specifiers.items) (fulls_of m.declarators.items) rest

-- the members of a list
abbrev pub members_of : List MemberDeclaration → Members
members_of [] = no_member
members_of (m ∷ ms) = view_member m (members_of ms)

abbrev mutual
  pub view_initializer : Initializer → Initial
  view_initializer (initializers.Value e) = initial (view e.value)
  view_initializer (initializers.List' line shape items) = braces line (view_initializers items)

  pub view_initializers : {m : _} → Row_of-Initializer m → Initials
  view_initializers end_of-Initializer = no_initial
  view_initializers (more_of-Initializer i rest) = initials (view_initializer i) (view_initializers rest)

-- the initializers of a list
abbrev pub initials_of : List Initializer → Initials
initials_of [] = no_initial
initials_of (i ∷ is) = initials (view_initializer i) (initials_of is)

-- a declarator in front of others
abbrev pub view_init_declarator : InitDeclarator → Declarators → Declarators
view_init_declarator d rest = declarator (view_full d.declarator) (option_map view_initializer d.initializer) rest

-- the declarators of a list
abbrev pub declarators_of : List InitDeclarator → Declarators
declarators_of [] = none_declared
declarators_of (d ∷ ds) = view_init_declarator d (declarators_of ds)

-- Levels: an expression has its own; a declarator is one, with the pointers before it, but for the empty one, and its bounds and parameters lie below it;
-- the braces of a structure and of an initializer are one each; an initializer lies beside its declarator.
abbrev pub value_depth : Option Tree → ℕ
value_depth None = 0
value_depth (Some e) = depth e

abbrev pub enumerators_depth : List Enumerated → ℕ
enumerators_depth [] = 0
enumerators_depth (e ∷ es) = max (value_depth e.value) (enumerators_depth es)

abbrev mutual
  pub part_depth : Part → ℕ
  part_depth (type_part p) = 0
  part_depth (storage line class) = 0
  part_depth (function line word) = 0
  part_depth (structure line kind tag ms) = members_depth ms + 1
  part_depth (enumeration line tag es) = enumerators_depth es

  pub parts_depth : Parts → ℕ
  parts_depth no_part = 0
  parts_depth (part first rest) = max (part_depth first) (parts_depth rest)

  pub members_depth : Members → ℕ
  members_depth no_member = 0
  members_depth (members parts ds rest) = max (max (parts_depth parts) (fulls_depth ds)) (members_depth rest)

  pub full_depth : Full → ℕ
  full_depth (full_unnamed full_end) = 0
  full_depth (full_unnamed (full_bounded line e rest)) = max (depth e) (full_suffixes_depth rest) + 1
  full_depth (full_unnamed (full_open line rest)) = full_suffixes_depth rest + 1
  full_depth (full_unnamed (full_empty line rest)) = full_suffixes_depth rest + 1
  full_depth (full_unnamed (full_void line rest)) = full_suffixes_depth rest + 1
  full_depth (full_unnamed (full_parameters line ps variadic rest)) = max (parameters_depth ps) (full_suffixes_depth rest) + 1
  full_depth (full_named line n suffixes) = full_suffixes_depth suffixes + 1
  full_depth (full_inside line d suffixes) = max (full_depth d) (full_suffixes_depth suffixes) + 1
  full_depth (full_pointing line qs d) = max (full_depth d) 1

  pub fulls_depth : Fulls → ℕ
  fulls_depth no_full = 0
  fulls_depth (full first rest) = max (full_depth first) (fulls_depth rest)

  pub full_suffixes_depth : FullSuffixes → ℕ
  full_suffixes_depth full_end = 0
  full_suffixes_depth (full_bounded line e rest) = max (depth e) (full_suffixes_depth rest)
  full_suffixes_depth (full_open line rest) = full_suffixes_depth rest
  full_suffixes_depth (full_empty line rest) = full_suffixes_depth rest
  full_suffixes_depth (full_void line rest) = full_suffixes_depth rest
  full_suffixes_depth (full_parameters line ps variadic rest) = max (parameters_depth ps) (full_suffixes_depth rest)

  pub parameters_depth : Parameters → ℕ
  parameters_depth no_parameter = 0
  parameters_depth (parameter parts d rest) = max (max (parts_depth parts) (full_depth d)) (parameters_depth rest)

abbrev mutual
  pub initial_depth : Initial → ℕ
  initial_depth (initial e) = depth e
  initial_depth (braces line items) = initials_depth items + 1

  pub initials_depth : Initials → ℕ
  initials_depth no_initial = 0
  initials_depth (initials first rest) = max (initial_depth first) (initials_depth rest)

abbrev pub initializer_depth : Option Initial → ℕ
initializer_depth None = 0
initializer_depth (Some i) = initial_depth i

abbrev pub declarators_depth : Declarators → ℕ
declarators_depth none_declared = 0
declarators_depth (declarator d i rest) = max (max (full_depth d) (initializer_depth i)) (declarators_depth rest)

-- the name that a declarator declares
abbrev pub name_of : Full → List ℕ
name_of (full_unnamed suffixes) = []
name_of (full_named line n suffixes) = n
name_of (full_inside line d suffixes) = name_of d
name_of (full_pointing line qs d) = name_of d

-- A declarator declares a name; an abstract one has none.
abbrev pub full_has_name : Full → Bool
full_has_name (full_unnamed suffixes) = false
full_has_name (full_named line n suffixes) = true
full_has_name (full_inside line d suffixes) = full_has_name d
full_has_name (full_pointing line qs d) = full_has_name d

-- Enumerators are declared one after the other, as no types.
abbrev pub with_enumerators : Scope → List Enumerated → Scope
with_enumerators names [] = names
with_enumerators names (e ∷ es) = with_enumerators ((e.name, false) ∷ names) es

-- Specifiers declare the enumerators in them, those of members too.
abbrev mutual
  pub with_part : Scope → Part → Scope
  with_part names (type_part p) = names
  with_part names (storage line class) = names
  with_part names (function line word) = names
  with_part names (structure line kind tag ms) = with_members names ms
  with_part names (enumeration line tag es) = with_enumerators names es

  pub with_parts : Scope → Parts → Scope
  with_parts names no_part = names
  with_parts names (part first rest) = with_parts (with_part names first) rest

  pub with_members : Scope → Members → Scope
  with_members names no_member = names
  with_members names (members parts ds rest) = with_members (with_parts names parts) rest

-- The suffix of a declarator that stands nearest to its name, in front of others.
abbrev pub or_suffixes : FullSuffixes → FullSuffixes → FullSuffixes
or_suffixes full_end outer = outer
or_suffixes (full_bounded line e rest) outer = full_bounded line e rest
or_suffixes (full_open line rest) outer = full_open line rest
or_suffixes (full_empty line rest) outer = full_empty line rest
or_suffixes (full_void line rest) outer = full_void line rest
or_suffixes (full_parameters line ps variadic rest) outer = full_parameters line ps variadic rest

abbrev pub nearest : Full → FullSuffixes
nearest (full_unnamed suffixes) = suffixes
nearest (full_named line n suffixes) = suffixes
nearest (full_inside line d suffixes) = or_suffixes (nearest d) suffixes
nearest (full_pointing line qs d) = nearest d

-- the suffixes of a function, where what stands around them is of one or not
abbrev pub begin_function : FullSuffixes → Bool → Bool
begin_function full_end outer = outer
begin_function (full_bounded line e rest) outer = false
begin_function (full_open line rest) outer = false
begin_function (full_empty line rest) outer = true
begin_function (full_void line rest) outer = true
begin_function (full_parameters line ps variadic rest) outer = true

abbrev pub is_function_within : Full → Bool → Bool
is_function_within (full_unnamed suffixes) outer = begin_function suffixes outer
is_function_within (full_named line n suffixes) outer = begin_function suffixes outer
is_function_within (full_inside line d suffixes) outer = is_function_within d (begin_function suffixes outer)
is_function_within (full_pointing line qs d) outer = is_function_within d false

-- The declarator is of a function: what stands nearest to its name is no pointer but a suffix that has parameters or says that there are none.
abbrev pub is_function : Full → Bool
is_function d = is_function_within d false

-- The names of declarators are declared one after the other, as types or not.
abbrev pub with_declarators : Scope → Bool → Declarators → Scope
with_declarators names types none_declared = names
with_declarators names types (declarator d i rest) = with_declarators ((name_of d, types) ∷ names) types rest

abbrev pub is_typedef : Part → Bool
is_typedef (type_part p) = false
is_typedef (storage line storage_classes.Typedef) = true
is_typedef (storage line storage_classes.Extern) = false
is_typedef (storage line storage_classes.Static) = false
is_typedef (storage line storage_classes.Auto) = false
is_typedef (storage line storage_classes.Register) = false
is_typedef (function line word) = false
is_typedef (structure line kind tag ms) = false
is_typedef (enumeration line tag es) = false

-- `typedef` stands among the specifiers.
abbrev pub have_typedef : Parts → Bool
have_typedef no_part = false
have_typedef (part first rest) = is_typedef first || have_typedef rest

-- A parameter declares the enumerators among its specifiers, and then its name, if it has one.
abbrev pub with_named : Scope → Bool → Full → Scope
with_named names types d = if full_has_name d then (name_of d, types) ∷ names else names

abbrev pub with_parameters : Scope → Parameters → Scope
with_parameters names no_parameter = names
with_parameters names (parameter parts d rest) = with_parameters (with_named (with_parts names parts) (have_typedef parts) d) rest

abbrev pub with_parameters_of : Scope → FullSuffixes → Scope
with_parameters_of names full_end = names
with_parameters_of names (full_bounded line e rest) = names
with_parameters_of names (full_open line rest) = names
with_parameters_of names (full_empty line rest) = names
with_parameters_of names (full_void line rest) = names
with_parameters_of names (full_parameters line ps variadic rest) = with_parameters names ps

-- Behind its declarator a definition declares its name, and within its body those of its parameters too.
abbrev pub with_function : Scope → Parts → Full → Scope
with_function names parts d = (name_of d, have_typedef parts) ∷ with_parts names parts

abbrev pub with_body : Scope → Parts → Full → Scope
with_body names parts d = with_parameters_of (with_function names parts d) (nearest d)

-- A declaration declares the enumerators among its specifiers, and then its declarators.
abbrev pub with_declaration : Scope → Parts → Declarators → Scope
with_declaration names parts ds = with_declarators (with_parts names parts) (have_typedef parts) ds

-- A type is specified: by a word, a tag, the name of a typedef, or braces.
abbrev pub specifies : Part → Bool
specifies (type_part p) = specifies_type p
specifies (storage line class) = false
specifies (function line word) = false
specifies (structure line kind tag ms) = true
specifies (enumeration line tag es) = true

abbrev pub specify : Parts → Bool
specify no_part = false
specify (part first rest) = specifies first || specify rest

abbrev pub part_line : Part → ℕ
part_line (type_part p) = type_part_line p
part_line (storage line class) = line
part_line (function line word) = line
part_line (structure line kind tag ms) = line
part_line (enumeration line tag es) = line

-- the line of the first token of specifiers, of which there is one at least
abbrev pub parts_line : Parts → ℕ
parts_line no_part = 0
parts_line (part first rest) = part_line first
