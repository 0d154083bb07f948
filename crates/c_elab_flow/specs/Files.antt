-- The functions and the objects of a file, and what the declarator of a definition holds (C11 6.9).
use Rattle.std.specs.Prelude.{ℕ, ◌&&◌, Bool, true, false, List, [], ◌∷◌, map, slice_get, slice_set, Option, Some, None, if◌then◌else◌}
use Rattle.c_tree.specs.Declarations.{Full, full_unnamed, full_named, full_inside, full_pointing, FullSuffixes, full_end, full_bounded, full_open, full_empty, full_void, full_parameters, Parameters, no_parameter}
use Rattle.c_tree.specs.Statements.{Statement}
use Rattle.c_types.specs.Types.{Completed}
use Rattle.core_tree.specs.declared.functions.Variable.{Variable}
use Rattle.core_tree.specs.Trees.{Procedure, Static}
use Rattle.core_tree.specs.Trees as cores
use Rattle.c_scope.specs.Scopes.{ObjectEntry, Callable, object_entry_size, passed_as, given_by}

-- ---- definitions of functions (C11 6.9.1)

-- the parameters of a declarator, where its one suffix is a function's
abbrev pub one_function : FullSuffixes → Option (Parameters × Bool)
one_function full_end = None
one_function (full_bounded line e rest) = None
one_function (full_open line rest) = None
one_function (full_empty line full_end) = Some (no_parameter, false)
one_function (full_void line full_end) = Some (no_parameter, false)
one_function (full_parameters line ps variadic full_end) = Some (ps, variadic)
one_function _ = None

abbrev pub no_suffixes : FullSuffixes → Bool
no_suffixes full_end = true
no_suffixes (full_bounded line e rest) = false
no_suffixes (full_open line rest) = false
no_suffixes (full_empty line rest) = false
no_suffixes (full_void line rest) = false
no_suffixes (full_parameters line ps variadic rest) = false

abbrev pub is_name_alone : Full → Bool
is_name_alone (full_unnamed suffixes) = false
is_name_alone (full_named line n suffixes) = no_suffixes suffixes
is_name_alone (full_inside line d suffixes) = is_name_alone d && no_suffixes suffixes
is_name_alone (full_pointing line qs d) = false

abbrev pub own_parameters : Full → Option (Parameters × Bool)
own_parameters (full_unnamed suffixes) = None
own_parameters (full_named line n suffixes) = one_function suffixes
own_parameters (full_inside line d suffixes) = if no_suffixes suffixes then own_parameters d else (if is_name_alone d then one_function suffixes else None)
own_parameters (full_pointing line qs d) = None

-- a defined function: its number, its variables, how many labels it has, and its body
pub record Definition : Type 0 where
  pub number : ℕ
  pub variables : List Variable
  pub labels : ℕ
  pub body : cores.Statement

-- a function as it is called
abbrev pub procedure_of : List Completed → Callable → Procedure
procedure_of done f = record {
  name = f.name;
  line = f.line;
  gives = given_by done f.type.gives.type;
  parameters = map (passed_as done) f.type.parameters;
  ellipsis = f.ellipsis;
  variables = [];
  labels = 0;
  body = None;
}

-- and with its body
abbrev pub with_body : List Procedure → Definition → Option Procedure → List Procedure
with_body fs x None = fs
with_body fs x (Some f) = slice_set fs x.number (record f { variables = x.variables; labels = x.labels; body = Some x.body })

abbrev pub with_bodies : List Procedure → List Definition → List Procedure
with_bodies fs [] = fs
with_bodies fs (x ∷ xs) = with_bodies (with_body fs x (slice_get fs x.number)) xs

abbrev pub given_bytes : Option (List ℕ) → List ℕ
given_bytes None = []
given_bytes (Some bytes) = bytes

-- an object as it is at the start
abbrev pub static_of : List Completed → ObjectEntry → Static
static_of done o = record {
  size = object_entry_size done o;
  readonly = o.named.constant;
  bytes = given_bytes o.bytes;
  addresses = [];
  undefined = if o.defined then None else Some o.line;
}
