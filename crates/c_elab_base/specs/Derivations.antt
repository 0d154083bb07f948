-- What the suffixes of declarators make of a type (C11 6.7.6.2, 6.7.6.3).
use Rattle.std.specs.Prelude.{ℕ, ◌||◌, Bool, true, false, List, [], ◌∷◌, map, slice_get, Option, Some, None, option_map, Result, Ok, Err, if◌then◌else◌}
use Rattle.std.specs.List.{list_any, list_all}
use Rattle.c_tree.specs.Declarations.{Full, full_unnamed, full_named, full_inside, full_pointing, FullSuffixes, full_end, full_bounded, full_open, full_empty, full_void, full_parameters, Parts, parts_line}
use Rattle.c_tree.specs.Files.{full_is_empty}
use Rattle.c_types.specs.Types.{CType, void, integer, aggregate, array, pointer, function as function_at, Completed, view}
use Rattle.c_scope.specs.Scopes.{Named, FunctionType, FunctionTable, function_number, view_named, view_function_type}
use Rattle.c_scope.specs.declared.functions.FunctionType.{FunctionType as CodeFunctionType}
use Rattle.c_scope.specs.Faults.{◌>>=◌}
use Rattle.c_elab_base.specs.declared.derivations.Parameter.{Parameter as CodeParameter}
use Rattle.c_elab_base.specs.declared.derivations.Derived.{Derived as CodeDerived}
use Rattle.c_elab_base.specs.declared.derivations.Derived.TheVariants as deriveds
use Rattle.c_elab_base.specs.declared.derivations.Shape.{Shape as CodeShape}
use Rattle.c_elab_base.specs.declared.derivations.Shape.TheVariants as shapes
use Rattle.c_elab_base.specs.declared.derivations.Derivation.{Derivation as CodeDerivation}
use Rattle.c_elab_base.specs.declared.derivations.Derivation.TheVariants as derivations
use Rattle.c_scope.specs.Types.{one_array}

-- ---- lines

abbrev pub suffixes_line : FullSuffixes → ℕ
suffixes_line full_end = 0
suffixes_line (full_bounded line e rest) = line
suffixes_line (full_open line rest) = line
suffixes_line (full_empty line rest) = line
suffixes_line (full_void line rest) = line
suffixes_line (full_parameters line ps variadic rest) = line

-- the line of the first token of a declarator, of which an empty one has none
abbrev pub full_line : Full → ℕ
full_line (full_unnamed suffixes) = suffixes_line suffixes
full_line (full_named line n suffixes) = line
full_line (full_inside line d suffixes) = line
full_line (full_pointing line qs d) = line

-- the line of its name
abbrev pub name_line : Full → ℕ
name_line (full_unnamed suffixes) = 0
name_line (full_named line n suffixes) = line
name_line (full_inside line d suffixes) = name_line d
name_line (full_pointing line qs d) = name_line d

-- a parameter without declarator has the line of its specifiers
abbrev pub parameter_line : Parts → Full → ℕ
parameter_line parts d = if full_is_empty d then parts_line parts else full_line d

-- ---- types

-- a parameter: its name, empty where it has none, and its type
pub record Parameter : Type 0 where
  pub name : List ℕ
  pub type : Named

-- what a typed suffix says: an array of so many elements, of which `[]` has none, or a function with these parameters, and with
-- an ellipsis or none
pub data Derived : Type 0 where
  counted : (n : Option ℕ) → Derived
  called : (parameters : List Parameter) (ellipsis : Bool) → Derived

-- an object's type, or a function's
pub data Shape : Type 0 where
  object : (type : CType) → Shape
  function : (type : FunctionType) → Shape

abbrev pub shape_by : CType → Option FunctionType → Shape
shape_by t None = object t
shape_by t (Some f) = function f

abbrev pub type_numbered : FunctionTable → Option ℕ → Option FunctionType
type_numbered table None = None
type_numbered table (Some n) = slice_get table.types n

-- the type that specifiers say, which a typedef of a function type makes a function's
abbrev pub shape_of : FunctionTable → CType → Shape
shape_of table t = shape_by t (type_numbered table (function_number t))

-- rule 3: an element is an object
abbrev pub array_shape : List Completed → Option ℕ → Shape → Result Shape ℕ
array_shape done n (object t) = one_array done t n >>= λ u. Ok (object u)
array_shape done n (function f) = Err 3

abbrev pub is_void : CType → Bool
is_void void = true
is_void (integer t) = false
is_void (aggregate p) = false
is_void (array e n) = false
is_void (pointer t c) = false
is_void (function_at f) = false

abbrev pub is_array : CType → Bool
is_array void = false
is_array (integer t) = false
is_array (aggregate p) = false
is_array (array e n) = true
is_array (pointer t c) = false
is_array (function_at f) = false

abbrev pub parameter_types : List Parameter → List CType
parameter_types ps = map (λ (p : Parameter). p.type.type) ps

-- void is a parameter
abbrev pub has_void : List Parameter → Bool
has_void ps = list_any (λ (p : Parameter). is_void p.type.type) ps

abbrev pub function_of : Bool → List Parameter → Bool → CType → FunctionType
function_of constant ps ellipsis t = record { gives = record { type = t; constant = constant }; parameters = parameter_types ps; ellipsis = ellipsis }

-- rule 6: a function gives no array and no function, and void isn't among its parameters
abbrev pub function_shape : Bool → List Parameter → Bool → Shape → Result Shape ℕ
function_shape constant ps ellipsis (object t) = if is_array t || has_void ps then Err 6 else Ok (function (function_of constant ps ellipsis t))
function_shape constant ps ellipsis (function f) = Err 6

-- the type with these suffixes, the outermost first, whose innermost is const or not
abbrev pub derived : List Completed → Bool → Shape → List Derived → Result Shape ℕ
derived done constant base [] = Ok base
derived done constant base (counted n ∷ ds) = derived done constant base ds >>= λ t. array_shape done n t
derived done constant base (called ps ellipsis ∷ ds) = derived done constant base ds >>= λ t. function_shape constant ps ellipsis t

-- ---- objects and functions

-- the lengths of an object's arrays, or the function type of what is no object, or the rule that it breaks
pub data Derivation : Type 0 where
  lengths : (ns : List (Option ℕ)) → Derivation
  callable : (made : Result FunctionType ℕ) → Derivation

abbrev pub function_in : Shape → Result FunctionType ℕ
function_in (object t) = Err 3
function_in (function f) = Ok f

-- the lengths of suffixes that are arrays' alone
abbrev pub plain_lengths : List Derived → Option (List (Option ℕ))
plain_lengths [] = Some []
plain_lengths (counted n ∷ ds) = option_map (λ ns. n ∷ ns) (plain_lengths ds)
plain_lengths (called ps ellipsis ∷ ds) = None

abbrev pub function_made : Result Shape ℕ → Result FunctionType ℕ
function_made made = made >>= function_in

abbrev pub callable_by : Result Shape ℕ → Derivation
callable_by made = callable (function_made made)

abbrev pub derivation_by : List Completed → Bool → Shape → List Derived → Option (List (Option ℕ)) → Derivation
derivation_by done constant (object t) ds (Some ns) = lengths ns
derivation_by done constant (object t) ds None = callable_by (derived done constant (object t) ds)
derivation_by done constant (function f) ds ns = callable_by (derived done constant (function f) ds)

abbrev pub derivation : FunctionTable → List Completed → Named → List Derived → Derivation
derivation table done base ds = derivation_by done base.constant (shape_of table base.type) ds (plain_lengths ds)

-- ---- what code holds

abbrev pub view_parameter : CodeParameter → Parameter
view_parameter p = record { name = p.name.items; type = view_named p.type_ }

abbrev pub view_parameters : List CodeParameter → List Parameter
view_parameters ps = map view_parameter ps

abbrev pub view_derived : CodeDerived → Derived
view_derived (deriveds.Counted n) = counted n
view_derived (deriveds.Called ps ellipsis) = called (view_parameters ps.items) ellipsis

abbrev pub view_deriveds : List CodeDerived → List Derived
view_deriveds ds = map view_derived ds

abbrev pub view_shape : CodeShape → Shape
view_shape (shapes.Object t) = object (view t)
view_shape (shapes.Function f) = function (view_function_type f)

abbrev pub view_made : Result CodeFunctionType ℕ → Result FunctionType ℕ
view_made (Ok f) = Ok (view_function_type f)
view_made (Err rule) = Err rule

abbrev pub view_derivation : CodeDerivation → Derivation
view_derivation (derivations.Lengths ns) = lengths ns.items
view_derivation (derivations.Callable made) = callable (view_made made)

-- ---- names of parameters

-- each parameter of a body has a name
abbrev pub is_named_so : List ℕ → Bool
is_named_so [] = false
is_named_so (b ∷ bs) = true

abbrev pub have_names : List Parameter → Bool
have_names ps = list_all (λ (p : Parameter). is_named_so p.name) ps
