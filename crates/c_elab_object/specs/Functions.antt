-- What declarators of functions declare (C11 6.7.6.3, 6.9.1).
use Rattle.std.specs.Prelude.{ℕ, ◌==◌, ◌&&◌, ◌||◌, Bool, true, false, not, List, [], ◌∷◌, length, take, slice_get, slice_set, codes, Option, Some, None, is_some, Result, Ok, Err, if◌then◌else◌}
use Rattle.std.specs.Str.{bytes_eq}
use Rattle.c_tree.specs.Declarations.{Initial, Full, name_of}
use Rattle.c_types.specs.declared.integers.IntegerType.{IntegerType}
use Rattle.c_types.specs.Integers.{same_integer}
use Rattle.c_types.specs.Types.{CType, void, integer, aggregate, array, pointer, function as function_at, Completed}
use Rattle.c_scope.specs.declared.meaning.Meaning.{Meaning}
use Rattle.c_scope.specs.declared.meaning.Meaning.TheVariants.{Variable, Object, Incomplete, Assert, Assume, Draw, BuiltIn, Function, Typedef, Enumerator, Record, Enumeration}
use Rattle.c_scope.specs.Scopes.{binding, FunctionType, Callable, FunctionTable, Scoped, linked_to, is_defined, with_callable}
use Rattle.c_scope.specs.Faults.{◌>>=◌, Fault, on_line}
use Rattle.c_operands.specs.Operands.{given_size}
use Rattle.c_elab_base.specs.declared.regions.Region.{Region}
use Rattle.c_elab_base.specs.Regions.{is_built_in_function, built_in_function, earlier}
use Rattle.c_elab_base.specs.Derivations.{Parameter, full_line, name_line, have_names}
use Rattle.c_scope.specs.Functions.{same_function}
use Rattle.c_elab_type.specs.Initializers.{no_initializer}

-- ---- built-in functions

-- integer types and pointers are scalar (C11 6.2.5p21)
abbrev pub is_one_scalar : List CType → Bool
is_one_scalar [] = false
is_one_scalar (void ∷ ts) = false
is_one_scalar (integer t ∷ []) = true
is_one_scalar (integer t ∷ u ∷ ts) = false
is_one_scalar (aggregate p ∷ ts) = false
is_one_scalar (array e n ∷ ts) = false
is_one_scalar (pointer t c ∷ []) = true
is_one_scalar (pointer t c ∷ u ∷ ts) = false
is_one_scalar (function_at f ∷ ts) = false

abbrev pub is_nothing : CType → Bool
is_nothing void = true
is_nothing (integer t) = false
is_nothing (aggregate p) = false
is_nothing (array e n) = false
is_nothing (pointer t c) = false
is_nothing (function_at f) = false

abbrev pub is_integer_type : IntegerType → CType → Bool
is_integer_type t void = false
is_integer_type t (integer u) = same_integer t u
is_integer_type t (aggregate p) = false
is_integer_type t (array e n) = false
is_integer_type t (pointer u c) = false
is_integer_type t (function_at f) = false

-- void, of any one scalar
abbrev pub is_statement_type : FunctionType → Bool
is_statement_type f = is_nothing f.gives.type && not f.gives.constant && not f.ellipsis && is_one_scalar f.parameters

abbrev pub is_no_parameter : List CType → Bool
is_no_parameter [] = true
is_no_parameter (t ∷ ts) = false

-- a number of this type, of nothing
abbrev pub is_draw_type : IntegerType → FunctionType → Bool
is_draw_type t f = is_integer_type t f.gives.type && not f.gives.constant && not f.ellipsis && is_no_parameter f.parameters

-- it has this type
abbrev pub is_built_in_type : Meaning → FunctionType → Bool
is_built_in_type (Variable v) f = false
is_built_in_type (Object k) f = false
is_built_in_type Incomplete f = false
is_built_in_type Assert f = is_statement_type f
is_built_in_type Assume f = is_statement_type f
is_built_in_type (Draw t) f = is_draw_type t f
is_built_in_type (BuiltIn b) f = false
is_built_in_type (Function k) f = false
is_built_in_type (Typedef n) f = false
is_built_in_type (Enumerator bits) f = false
is_built_in_type (Record p) f = false
is_built_in_type Enumeration f = false

-- ---- draws from the inputs

abbrev pub draw_prefix : List ℕ
draw_prefix = codes "nondet_"

abbrev pub drawn_type : CType → Option IntegerType
drawn_type void = None
drawn_type (integer t) = Some t
drawn_type (aggregate p) = None
drawn_type (array e n) = None
drawn_type (pointer t c) = None
drawn_type (function_at f) = None

-- the type of what a function draws: it has no definition, a name that begins `nondet_`, no parameters and an integer result
abbrev pub draws_of : FunctionTable → List ℕ → FunctionType → Option IntegerType
draws_of table name f =
    if bytes_eq (take 7 name) draw_prefix && is_no_parameter f.parameters && not f.ellipsis && not (is_defined table name) then drawn_type f.gives.type else None

-- ---- rule 2

-- the name in this scope is the function's already, or nobody's
abbrev pub is_own_function : Option ℕ → Option Meaning → Bool
is_own_function k None = true
is_own_function None (Some m) = false
is_own_function (Some k) (Some (Function l)) = k == l
is_own_function (Some k) (Some m) = false

-- it can be declared once more so: with the same type, and defined once
abbrev pub is_function_again : FunctionType → Bool → Option Callable → Bool
is_function_again f defines None = false
is_function_again f defines (Some c) = same_function f c.type && not (defines && c.defined)

abbrev pub function_again : Scoped → Bool → Option ℕ → FunctionType → Result FunctionType ℕ
function_again s defines None f = Ok f
function_again s defines (Some k) f = if is_function_again f defines (slice_get s.functions.all k) then Ok f else Err 2

-- A built-in function's name is its own or nobody's here, it has its own type, and no body.
abbrev pub is_own_built_in : Option Meaning → Bool
is_own_built_in None = true
is_own_built_in (Some m) = is_built_in_function m

abbrev pub built_in_again : Bool → Meaning → Option Meaning → FunctionType → Result FunctionType ℕ
built_in_again defines m before f = if is_own_built_in before && is_built_in_type m f && not defines then Ok f else Err 2

abbrev pub function_made : Scoped → Bool → Option Meaning → Option ℕ → Option Meaning → FunctionType → Result FunctionType ℕ
function_made s defines None k before f = function_again s defines k f
function_made s defines (Some m) k before f = built_in_again defines m before f

-- a declarator whose name is another thing's, or whose types differ, breaks 2 before all else
abbrev pub function_node : Scoped → Bool → List ℕ → Option Meaning → Result FunctionType ℕ → Result FunctionType ℕ
function_node s defines name before (Ok f) =
    if is_some (linked_to s.linked name) then Err 2
    else if is_some (built_in_function name) || is_own_function (linked_to s.functions.named name) before then function_made s defines (built_in_function name) (linked_to s.functions.named name) before f
    else Err 2
function_node s defines name before (Err rule) = if is_some before || is_some (linked_to s.linked name) || is_some (linked_to s.functions.named name) || is_some (built_in_function name) then Err 2 else Err rule

-- ---- declared functions

-- what is known of a function behind its first declarator
abbrev pub first_callable : FunctionTable → Full → FunctionType → Bool → Callable
first_callable table d f defines = record {
  name = name_of d;
  line = name_line d;
  type = f;
  ellipsis = if f.ellipsis then Some (full_line d) else None;
  draws = draws_of table (name_of d) f;
  defined = defines;
}

-- and behind one more
abbrev pub callable_again : Full → Bool → Callable → Callable
callable_again d defines c = if defines then record c { line = name_line d; defined = true } else c

abbrev pub changed_callable : List Callable → ℕ → (Callable → Callable) → Option Callable → List Callable
changed_callable all k f None = all
changed_callable all k f (Some c) = slice_set all k (f c)

-- the function's number, and the functions behind its declarator
abbrev pub declared_callable : FunctionTable → Full → FunctionType → Bool → Option ℕ → ℕ × FunctionTable
declared_callable table d f defines None = (length table.all, with_callable table (name_of d) (first_callable table d f defines))
declared_callable table d f defines (Some k) = (k, record table { all = changed_callable table.all k (callable_again d defines) (slice_get table.all k) })

abbrev pub with_meaning : Scoped → List ℕ → Meaning → Scoped
with_meaning s name m = record s { bindings = binding name m ∷ s.bindings }

abbrev pub declared_function : Scoped → Full → FunctionType → Scoped
declared_function s d f =
    let x = declared_callable s.functions d f false (linked_to s.functions.named (name_of d)) in
    with_meaning (record s { functions = x.1 }) (name_of d) (Function x.0)

-- a built-in function stays what it is
abbrev pub declared_or_built_in : Scoped → Full → FunctionType → Option Meaning → Scoped
declared_or_built_in s d f None = declared_function s d f
declared_or_built_in s d f (Some m) = with_meaning s (name_of d) m

-- a declarator of a function type, or of one that breaks a rule; rule 12: a function has no initializer
abbrev pub typed_function : Region → Scoped → Full → Option Initial → Result FunctionType ℕ → Result Scoped Fault
typed_function r s d i made = do
  f ← on_line (full_line d) (function_node s false (name_of d) (earlier r s (name_of d)) made)
  none ← no_initializer (full_line d) (declared_or_built_in s d f (built_in_function (name_of d))) i
  Ok (declared_or_built_in s d f (built_in_function (name_of d)))

-- ---- definitions

-- rules 3 and 6: a definition gives void or a complete type, and each of its parameters has a name, which those of a function type
-- that a typedef names have not
abbrev pub definition_node : List Completed → List Parameter → FunctionType → Result FunctionType ℕ
definition_node done ps f = do
  size ← given_size done f.gives.type
  if have_names ps && length ps == length f.parameters then Ok f else Err 6
