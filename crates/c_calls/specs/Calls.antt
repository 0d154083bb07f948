-- What a call makes of typed operands, pointers among them, or the lowest rule that it breaks (C11 6.5.2.2).
use Rattle.std.specs.Prelude.{◌≡◌, ℕ, Bool, true, false, List, [], ◌∷◌, map, reverse, slice_get, Option, Some, None, Result, Ok, Err}
use Rattle.c_types.specs.declared.integers.IntegerType.{IntegerType}
use Rattle.c_types.specs.declared.integers.IntegerType.TheVariants as types
use Rattle.c_types.specs.declared.types.ValueType.TheVariants.{Void, Integer}
use Rattle.c_types.specs.Types.{CType, Completed}
use Rattle.c_types.specs.Types as ctypes
use Rattle.c_types.specs.Layouts.{size_of}
use Rattle.core_tree.specs.declared.expression.CoreArgument.{CoreArgument}
use Rattle.core_tree.specs.declared.operators.ArithmeticOperator.TheVariants as arithmetics
use Rattle.core_tree.specs.Trees.{Expression, Arguments, no_argument, number_argument, structure_argument, with_argument}
use Rattle.core_tree.specs.Trees as cores
use Rattle.c_scope.specs.declared.meaning.Meaning.{Meaning}
use Rattle.c_scope.specs.declared.meaning.Meaning.TheVariants.{Variable, Object, Incomplete, Assert, Assume, Draw, BuiltIn, Function, Typedef, Enumerator, Record, Enumeration}
use Rattle.c_scope.specs.declared.meaning.BuiltInFunction.{BuiltInFunction}
use Rattle.c_scope.specs.declared.meaning.BuiltInFunction.TheVariants.{Malloc, Calloc, Free, Exit, Abort, Check, Print}
use Rattle.c_scope.specs.Scopes.{FunctionType, Callable, Scoped}
use Rattle.c_scope.specs.Functions.{void_pointer, text_type}
use Rattle.c_scope.specs.Types.{type_size}
use Rattle.c_scope.specs.Faults.{◌>>=◌, required}
use Rattle.c_operators.specs.declared.typed_operands.TypedOperand.{TypedOperand}
use Rattle.c_operators.specs.Pointers.{Operand, value, place, structure, designator, view_typed, OperandNode, plain, int_type, scalar, assigned, record_from, comma_by}

-- ---- arguments

-- an argument in front of others, converted to its parameter's type as by assignment
abbrev pub argument_in : CType → Operand → Result (Arguments → Arguments) ℕ
argument_in ctypes.void x = Err 8
argument_in (ctypes.integer t) x = assigned (ctypes.integer t) x >>= λ e. Ok (number_argument e)
argument_in (ctypes.aggregate p) x = required 8 (record_from p x) >>= λ a. Ok (structure_argument a)
argument_in (ctypes.array inner n) x = Err 8
argument_in (ctypes.pointer t c) x = assigned (ctypes.pointer t c) x >>= λ e. Ok (number_argument e)
argument_in (ctypes.function f) x = Err 8

-- those of the parameters, and the arguments behind them; rule 10: there are as many
abbrev pub arguments_in : List CType → List Operand → Result (Arguments × List Operand) ℕ
arguments_in [] xs = Ok (no_argument, xs)
arguments_in (t ∷ ts) [] = Err 10
arguments_in (t ∷ ts) (x ∷ xs) = do
  a ← argument_in t x
  rest ← arguments_in ts xs
  Ok (a rest.0, rest.1)

-- rule 10: only an ellipsis takes more; rule 8: these are scalar
abbrev pub extra_arguments : Bool → List Operand → Result (List Expression) ℕ
extra_arguments ellipsis [] = Ok []
extra_arguments false (x ∷ xs) = Err 10
extra_arguments true (x ∷ xs) = do
  e ← scalar 8 x
  es ← extra_arguments true xs
  Ok (e ∷ es)

-- operands that stand in memory in turned order
abbrev pub turned : List TypedOperand → List Operand
turned xs = map view_typed (reverse xs)

-- ---- calls of functions of the file

-- rule 3: what a call gives is void or complete (C11 6.5.2.2p1)
abbrev pub given_size : List Completed → CType → Result ℕ ℕ
given_size done ctypes.void = Ok 0
given_size done (ctypes.integer t) = type_size done (ctypes.integer t)
given_size done (ctypes.aggregate p) = type_size done (ctypes.aggregate p)
given_size done (ctypes.array inner n) = type_size done (ctypes.array inner n)
given_size done (ctypes.pointer t c) = type_size done (ctypes.pointer t c)
given_size done (ctypes.function f) = type_size done (ctypes.function f)

-- a call of the function with a number, which gives this type; a value is used where it is wanted
abbrev pub given_operand : List Completed → (line f : ℕ) → Bool → CType → Arguments → Operand
given_operand done line f wanted ctypes.void args = plain ctypes.void (cores.call line f false Void args)
given_operand done line f wanted (ctypes.integer t) args = plain (ctypes.integer t) (cores.call line f wanted (Integer t) args)
given_operand done line f wanted (ctypes.aggregate p) args = structure (ctypes.aggregate p) (cores.give line f wanted (size_of done (ctypes.aggregate p)) args)
given_operand done line f wanted (ctypes.array inner n) args = structure (ctypes.array inner n) (cores.give line f wanted (size_of done (ctypes.array inner n)) args)
given_operand done line f wanted (ctypes.pointer t c) args = plain (ctypes.pointer t c) (cores.call line f wanted (Integer types.UnsignedLong) args)
given_operand done line f wanted (ctypes.function g) args = structure (ctypes.function g) (cores.give line f wanted (size_of done (ctypes.function g)) args)

-- what is evaluated before an operand
abbrev pub behind : ℕ → List Expression → Operand → OperandNode
behind line [] x = Ok x
behind line (e ∷ es) x = behind line es x >>= λ y. comma_by line e y

abbrev pub function_call : List Completed → (line f : ℕ) → Bool → FunctionType → List Operand → OperandNode
function_call done line f wanted t xs = do
  size ← given_size done t.gives.type
  args ← arguments_in t.parameters xs
  es ← extra_arguments t.ellipsis args.1
  behind line es (given_operand done line f wanted t.gives.type args.0)

-- ---- calls by a pointer to a function: the profile refuses each file that has one

-- what evaluates arguments
abbrev pub evaluated : Arguments → List Expression
evaluated no_argument = []
evaluated (number_argument e rest) = e ∷ evaluated rest
evaluated (structure_argument a rest) = cores.discard_structure a ∷ evaluated rest

-- an argument is evaluated by this, before the others
abbrev pub EvaluatedBy : CoreArgument → Expression → Type 0
EvaluatedBy a e = (rest : Arguments) → evaluated (with_argument a rest) ≡ e ∷ evaluated rest

-- something of this type
abbrev pub some_value : List Completed → ℕ → CType → Operand
some_value done line ctypes.void = plain ctypes.void (cores.discard line (cores.constant line types.Int 0))
some_value done line (ctypes.integer t) = plain (ctypes.integer t) (cores.constant line t 0)
some_value done line (ctypes.aggregate p) = structure (ctypes.aggregate p) (cores.list line (size_of done (ctypes.aggregate p)) cores.no_part)
some_value done line (ctypes.array inner n) = structure (ctypes.array inner n) (cores.list line (size_of done (ctypes.array inner n)) cores.no_part)
some_value done line (ctypes.pointer t c) = plain (ctypes.pointer t c) (cores.constant line types.UnsignedLong 0)
some_value done line (ctypes.function f) = plain ctypes.void (cores.discard line (cores.constant line types.Int 0))

abbrev pub called_by_type : List Completed → ℕ → Expression → FunctionType → List Operand → OperandNode
called_by_type done line e t xs = do
  size ← given_size done t.gives.type
  args ← arguments_in t.parameters xs
  es ← extra_arguments t.ellipsis args.1
  inner ← behind line es (some_value done line t.gives.type)
  whole ← behind line (evaluated args.0) inner
  comma_by line e whole

-- the place of a function type among those of the file
abbrev pub function_place : CType → Option ℕ
function_place ctypes.void = None
function_place (ctypes.integer t) = None
function_place (ctypes.aggregate p) = None
function_place (ctypes.array inner n) = None
function_place (ctypes.pointer t c) = None
function_place (ctypes.function f) = Some f

-- that of what a pointer points to
abbrev pub pointee_place : CType → Option ℕ
pointee_place ctypes.void = None
pointee_place (ctypes.integer t) = None
pointee_place (ctypes.aggregate p) = None
pointee_place (ctypes.array inner n) = None
pointee_place (ctypes.pointer t c) = function_place t
pointee_place (ctypes.function f) = None

abbrev pub type_at : List FunctionType → Option ℕ → Option FunctionType
type_at types None = None
type_at types (Some f) = slice_get types f

-- rule 10: a callee that isn't a name of a function is a pointer to one
abbrev pub pointer_call : Scoped → ℕ → Operand → List Operand → OperandNode
pointer_call s line (value t null e) xs = required 10 (type_at s.functions.types (pointee_place t)) >>= λ f. called_by_type s.records.done line e f xs
pointer_call s line (place t constant p) xs = Err 10
pointer_call s line (structure t a) xs = Err 10
pointer_call s line (designator f e) xs = Err 10

-- ---- calls of built-in functions

-- the one argument of a scalar type
abbrev pub one_scalar : List Operand → Result Expression ℕ
one_scalar [] = Err 10
one_scalar (x ∷ []) = scalar 8 x
one_scalar (x ∷ y ∷ rest) = scalar 8 x >>= λ e. Err 10

-- the one argument, or both, converted as by assignment to these types
abbrev pub one_of : CType → List Operand → Result Expression ℕ
one_of t [] = Err 10
one_of t (x ∷ []) = assigned t x
one_of t (x ∷ y ∷ rest) = assigned t x >>= λ e. Err 10

abbrev pub two_of : CType → CType → List Operand → Result (Expression × Expression) ℕ
two_of t u [] = Err 10
two_of t u (x ∷ xs) = do
  a ← assigned t x
  b ← one_of u xs
  Ok (a, b)

abbrev pub no_arguments : List Operand → Operand → OperandNode
no_arguments [] x = Ok x
no_arguments (y ∷ rest) x = Err 10

abbrev pub unsigned_long : CType
unsigned_long = ctypes.integer types.UnsignedLong

abbrev pub assertion_call : ℕ → List Operand → OperandNode
assertion_call line xs = one_scalar xs >>= λ e. Ok (plain ctypes.void (cores.assertion line e))

abbrev pub assumption_call : ℕ → List Operand → OperandNode
assumption_call line xs = one_scalar xs >>= λ e. Ok (plain ctypes.void (cores.assumption line e))

abbrev pub draw_call : ℕ → IntegerType → List Operand → OperandNode
draw_call line t xs = no_arguments xs (plain (ctypes.integer t) (cores.draw line t))

abbrev pub allocation : ℕ → List Operand → OperandNode
allocation line xs = one_of unsigned_long xs >>= λ e. Ok (plain void_pointer (cores.allocate line e))

abbrev pub zeroed_allocation : ℕ → List Operand → OperandNode
zeroed_allocation line xs = two_of unsigned_long unsigned_long xs >>= λ p. Ok (plain void_pointer (cores.allocate_zeroed line p.0 p.1))

abbrev pub release_call : ℕ → List Operand → OperandNode
release_call line xs = one_of void_pointer xs >>= λ e. Ok (plain ctypes.void (cores.release line e))

abbrev pub exit_call : ℕ → List Operand → OperandNode
exit_call line xs = one_of int_type xs >>= λ e. Ok (plain ctypes.void (cores.exit line e))

-- Both arguments are evaluated, the condition first, before it is asked whether that is 0.
abbrev pub truth_and_text : ℕ → Expression → Expression → Expression
truth_and_text line e text = cores.arithmetic line arithmetics.And (cores.is_zero line (cores.is_zero line e)) (cores.comma line (cores.discard line text) (cores.constant line types.Int 1))

abbrev pub checked : ℕ → List Operand → OperandNode
checked line [] = Err 10
checked line (x ∷ xs) = do
  e ← scalar 8 x
  text ← one_of text_type xs
  Ok (plain ctypes.void (cores.assertion line (truth_and_text line e text)))

-- the text is evaluated, and then any scalars; the number is drawn
abbrev pub printed : ℕ → List Operand → OperandNode
printed line [] = Err 10
printed line (x ∷ xs) = do
  text ← assigned text_type x
  es ← extra_arguments true xs
  behind line (text ∷ es) (plain int_type (cores.draw line types.Int))

abbrev pub built_in_call : ℕ → BuiltInFunction → List Operand → OperandNode
built_in_call line Malloc xs = allocation line xs
built_in_call line Calloc xs = zeroed_allocation line xs
built_in_call line Free xs = release_call line xs
built_in_call line Exit xs = exit_call line xs
built_in_call line Abort xs = no_arguments xs (plain ctypes.void (cores.abort line))
built_in_call line Check xs = checked line xs
built_in_call line Print xs = printed line xs

-- ---- calls of names

-- a function that draws from the inputs has no body
abbrev pub drawn_or_called : List Completed → (line f : ℕ) → Bool → Option IntegerType → FunctionType → List Operand → OperandNode
drawn_or_called done line f wanted None t xs = function_call done line f wanted t xs
drawn_or_called done line f wanted (Some u) t xs = draw_call line u xs

abbrev pub callable_call : List Completed → (line f : ℕ) → Bool → Option Callable → List Operand → OperandNode
callable_call done line f wanted None xs = Err 10
callable_call done line f wanted (Some c) xs = drawn_or_called done line f wanted c.draws c.type xs

-- what a call of what a name on this line means is, whose value is wanted or not
abbrev pub named_call : Scoped → ℕ → Bool → Meaning → List Operand → OperandNode
named_call s line wanted (Variable v) xs = Err 10
named_call s line wanted (Object k) xs = Err 10
named_call s line wanted Incomplete xs = Err 10
named_call s line wanted Assert xs = assertion_call line xs
named_call s line wanted Assume xs = assumption_call line xs
named_call s line wanted (Draw t) xs = draw_call line t xs
named_call s line wanted (BuiltIn b) xs = built_in_call line b xs
named_call s line wanted (Function f) xs = callable_call s.records.done line f wanted (slice_get s.functions.all f) xs
named_call s line wanted (Typedef n) xs = Err 10
named_call s line wanted (Enumerator bits) xs = Err 10
named_call s line wanted (Record p) xs = Err 10
named_call s line wanted Enumeration xs = Err 10
