-- What declarators of typedefs and variables declare (C11 6.7.6, 6.7.8), apart from their initializers.
use Rattle.std.specs.Prelude.{ℕ, ◌+◌, ◌==◌, ◌&&◌, ◌++◌, Bool, true, false, not, List, [], ◌∷◌, length, slice_get, Option, Some, None, Result, Ok, Err, if◌then◌else◌}
use Rattle.c_types.specs.Types.{CType, function, Completed}
use Rattle.c_types.specs.Layouts.{is_complete}
use Rattle.c_scope.specs.declared.meaning.Meaning.{Meaning}
use Rattle.c_scope.specs.declared.meaning.Meaning.TheVariants.{Variable, Incomplete, Typedef}
use Rattle.c_scope.specs.Scopes.{binding, Named, FunctionType, Callable, Scoped, function_number}
use Rattle.c_scope.specs.Faults.{◌>>=◌}
use Rattle.c_scope.specs.Functions.{same_flag, same_ctype, same_function, type_place, with_placed}
use Rattle.c_scope.specs.Types.{type_size}
use Rattle.c_elab_base.specs.Derivations.{type_numbered}

-- ---- parameters

-- how many parameters these functions have, and these function types
abbrev pub function_parameters : List Callable → ℕ
function_parameters [] = 0
function_parameters (f ∷ fs) = length f.type.parameters + function_parameters fs

abbrev pub type_parameters : List FunctionType → ℕ
type_parameters [] = 0
type_parameters (t ∷ ts) = length t.parameters + type_parameters ts

-- ---- typedefs (C11 6.7.8)

-- a const type is another type (C11 6.2.5p26)
abbrev pub is_named : Named → Option Named → Bool
is_named n None = false
is_named n (Some m) = same_flag n.constant m.constant && same_ctype n.type m.type

-- a typedef of this type
abbrev pub is_typedef_of : List Named → Named → Meaning → Bool
is_typedef_of types n (Typedef k) = is_named n (slice_get types k)
is_typedef_of types n _ = false

-- rule 2: a scope may name a type again, but the same (C11 6.7p3)
abbrev pub typedef_node : List Named → Bool → Option Meaning → Result CType ℕ → Result Named ℕ
typedef_node types k None made = made >>= λ t. Ok (record { type = t; constant = k })
typedef_node types k (Some m) (Ok t) = if is_typedef_of types (record { type = t; constant = k }) m then Ok (record { type = t; constant = k }) else Err 2
typedef_node types k (Some m) (Err rule) = Err 2

-- a name of a type, which gets the next number
abbrev pub with_typedef : Scoped → List ℕ → Named → Scoped
with_typedef s name n = record s { bindings = binding name (Typedef (length s.types)) ∷ s.bindings; types = s.types ++ n ∷ [] }

-- ---- typedefs of function types

abbrev pub is_function_type : FunctionType → Option FunctionType → Bool
is_function_type f None = false
is_function_type f (Some g) = same_function f g

-- the type that a number of a typedef has, if it is a function's
abbrev pub function_named : Scoped → Option Named → Option FunctionType
function_named s None = None
function_named s (Some n) = type_numbered s.functions (function_number n.type)

-- a typedef of this function type
abbrev pub is_typedef_of_function : Scoped → FunctionType → Meaning → Bool
is_typedef_of_function s f (Typedef k) = is_function_type f (function_named s (slice_get s.types k))
is_typedef_of_function s f _ = false

-- rule 2: a scope may name a function type again, but the same
abbrev pub function_typedef_node : Scoped → Option Meaning → Result FunctionType ℕ → Result FunctionType ℕ
function_typedef_node s None made = made
function_typedef_node s (Some m) (Ok f) = if is_typedef_of_function s f m then Ok f else Err 2
function_typedef_node s (Some m) (Err rule) = Err 2

-- a function type that the file has, and a name of it
abbrev pub with_function_type : Scoped → FunctionType → Scoped
with_function_type s f = record s { functions = record s.functions { types = with_placed s.functions.types f } }

abbrev pub with_function_typedef : Scoped → List ℕ → FunctionType → Scoped
with_function_typedef s name f = with_typedef (with_function_type s f) name (record { type = function (type_place s.functions.types f); constant = false })

-- ---- lengths and sizes

-- whether `[]` is the outermost length
abbrev pub is_open : List (Option ℕ) → Bool
is_open [] = false
is_open (None ∷ ls) = true
is_open (Some n ∷ ls) = false

abbrev pub stated_lengths : ℕ → List (Option ℕ) → List (Option ℕ)
stated_lengths n [] = []
stated_lengths n (None ∷ ls) = Some n ∷ ls
stated_lengths n (Some k ∷ ls) = Some k ∷ ls

-- rule 3: an object has a complete type (C11 6.7p7)
abbrev pub complete_type : List Completed → CType → Result CType ℕ
complete_type done t = if is_complete done t then Ok t else Err 3

-- rule 4: and not too large a one
abbrev pub sized_type : List Completed → CType → Result CType ℕ
sized_type done t = type_size done t >>= λ size. Ok t

-- ---- variables of a function

-- the type of a variable
abbrev pub variable_node : List Completed → Option Meaning → Result CType ℕ → Result CType ℕ
variable_node done (Some m) made = Err 2
variable_node done None made = made >>= sized_type done

-- a name that means a variable, the next of the function
abbrev pub with_variable : Scoped → List ℕ → Named → Scoped
with_variable s name n = record s { bindings = binding name (Variable (length s.variables)) ∷ s.bindings; variables = s.variables ++ n ∷ [] }

-- A name's scope begins with its declarator, so that its initializer may name it (C11 6.2.1p7). An array whose length the
-- initializer says is incomplete within it.
abbrev pub with_incomplete : Scoped → List ℕ → Scoped
with_incomplete s name = record s { bindings = binding name Incomplete ∷ s.bindings }

abbrev pub within_initializer : Bool → Scoped → List ℕ → Named → Scoped
within_initializer false s name n = with_variable s name n
within_initializer true s name n = with_incomplete s name

abbrev pub of_type : Named → CType → Named
of_type base t = record { type = t; constant = base.constant }
