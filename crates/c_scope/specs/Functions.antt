-- The function types of a file, each of which has one place among them (C11 6.7.6.3).
use Rattle.std.specs.Prelude.{ℕ, suc, ◌==◌, ◌&&◌, ◌++◌, Bool, true, false, not, List, [], ◌∷◌, length, codes, if◌then◌else◌}
use Rattle.c_types.specs.declared.integers.IntegerType.TheVariants as types
use Rattle.c_types.specs.Integers.{same_integer}
use Rattle.c_types.specs.Types.{CType, void, integer, aggregate, array, pointer, function}
use Rattle.c_scope.specs.declared.meaning.BuiltInFunction.{BuiltInFunction}
use Rattle.c_scope.specs.declared.meaning.BuiltInFunction.TheVariants.{Malloc, Calloc, Free, Exit, Abort, Check, Print}
use Rattle.c_scope.specs.declared.meaning.Meaning.TheVariants.{BuiltIn}
use Rattle.c_scope.specs.Scopes.{Environment, binding, FunctionType, plain}

-- ---- types that are one

abbrev pub same_flag : Bool → Bool → Bool
same_flag true b = b
same_flag false b = not b

abbrev pub same_ctype : CType → CType → Bool
same_ctype void void = true
same_ctype (integer t) (integer u) = same_integer t u
same_ctype (aggregate m) (aggregate n) = m == n
same_ctype (array e k) (array f l) = k == l && same_ctype e f
same_ctype (pointer t c) (pointer u d) = same_flag c d && same_ctype t u
same_ctype (function m) (function n) = m == n
same_ctype _ _ = false

-- the same parameters, up to qualifiers
abbrev pub same_types : List CType → List CType → Bool
same_types [] [] = true
same_types [] (u ∷ us) = false
same_types (t ∷ ts) [] = false
same_types (t ∷ ts) (u ∷ us) = same_ctype t u && same_types ts us

-- one function type (C11 6.7.6.3p15)
abbrev pub same_function : FunctionType → FunctionType → Bool
same_function f g =
    same_flag f.gives.constant g.gives.constant && same_ctype f.gives.type g.gives.type && same_flag f.ellipsis g.ellipsis && same_types f.parameters g.parameters

-- ---- places

-- the place of a function type: that of the first that is the same, or behind all
abbrev pub type_place : List FunctionType → FunctionType → ℕ
type_place [] f = 0
type_place (g ∷ gs) f = if same_function g f then 0 else suc (type_place gs f)

-- function types, among which one has a place
abbrev pub with_placed : List FunctionType → FunctionType → List FunctionType
with_placed gs f = if type_place gs f == length gs then gs ++ f ∷ [] else gs

-- ---- built-in functions that take or give pointers, or end the program (C11 7.21.6.3, 7.22.3, 7.22.4)

-- no file can name these so far
abbrev pub object_functions : Environment
object_functions =
    binding (codes "malloc") (BuiltIn Malloc)
    ∷ binding (codes "calloc") (BuiltIn Calloc)
    ∷ binding (codes "free") (BuiltIn Free)
    ∷ binding (codes "exit") (BuiltIn Exit)
    ∷ binding (codes "abort") (BuiltIn Abort)
    ∷ binding (codes "__CPROVER_assert") (BuiltIn Check)
    ∷ binding (codes "printf") (BuiltIn Print)
    ∷ []

abbrev pub void_pointer : CType
void_pointer = pointer void false

-- a pointer to characters that are const
abbrev pub text_type : CType
text_type = pointer (integer types.Char) true

abbrev pub function_from : CType → List CType → FunctionType
function_from t parameters = record { gives = plain t; parameters = parameters; ellipsis = false }

-- their types; the first parameter of `__CPROVER_assert` may have any scalar type
abbrev pub built_in_function_type : BuiltInFunction → FunctionType
built_in_function_type Malloc = function_from void_pointer (integer types.UnsignedLong ∷ [])
built_in_function_type Calloc = function_from void_pointer (integer types.UnsignedLong ∷ integer types.UnsignedLong ∷ [])
built_in_function_type Free = function_from void (void_pointer ∷ [])
built_in_function_type Exit = function_from void (integer types.Int ∷ [])
built_in_function_type Abort = function_from void []
built_in_function_type Check = function_from void (integer types.Int ∷ text_type ∷ [])
built_in_function_type Print = record { gives = plain (integer types.Int); parameters = text_type ∷ []; ellipsis = true }
