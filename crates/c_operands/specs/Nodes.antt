-- What an operator makes of typed values, or the lowest rule that they break (C11 6.3.1, 6.5).
use Rattle.std.specs.Prelude.{ℕ, ◌%◌, ◌^◌, Bool, true, false, Option, Some, None, Result, Ok, Err, if◌then◌else◌}
use Rattle.c_token.specs.declared.token.Constant.{Constant}
use Rattle.c_token.specs.declared.token.ConstantType.{ConstantType}
use Rattle.c_token.specs.declared.token.ConstantType.TheVariants as constants
use Rattle.c_tree.specs.declared.expr.BinaryOp.{BinaryOp}
use Rattle.c_tree.specs.declared.expr.BinaryOp.TheVariants as binaries
use Rattle.c_tree.specs.declared.expr.UnaryOp.{UnaryOp}
use Rattle.c_tree.specs.declared.expr.UnaryOp.TheVariants as unaries
use Rattle.c_tree.specs.declared.expr.StepOp.{StepOp}
use Rattle.c_tree.specs.declared.expr.StepOp.TheVariants as postfixes
use Rattle.c_types.specs.declared.integers.IntegerType.{IntegerType}
use Rattle.c_types.specs.declared.integers.IntegerType.TheVariants as types
use Rattle.c_types.specs.declared.types.ValueType.{ValueType}
use Rattle.c_types.specs.declared.types.ValueType.TheVariants.{Void, Integer}
use Rattle.c_types.specs.Types.{CType}
use Rattle.c_types.specs.Types as ctypes
use Rattle.c_types.specs.Integers.{width, bytes, promoted, common_type, same_type}
use Rattle.core_tree.specs.declared.operators.ArithmeticOperator.{ArithmeticOperator}
use Rattle.core_tree.specs.declared.operators.ArithmeticOperator.TheVariants as arithmetics
use Rattle.core_tree.specs.declared.operators.Comparison.{Comparison}
use Rattle.core_tree.specs.declared.operators.Comparison.TheVariants as comparisons
use Rattle.core_tree.specs.declared.operators.LogicalOperator.{LogicalOperator}
use Rattle.core_tree.specs.declared.operators.LogicalOperator.TheVariants as logicals
use Rattle.core_tree.specs.declared.operators.SignOperator.{SignOperator}
use Rattle.core_tree.specs.declared.operators.SignOperator.TheVariants as signs
use Rattle.core_tree.specs.declared.operators.StepOperator.{StepOperator}
use Rattle.core_tree.specs.declared.operators.StepOperator.TheVariants as steps
use Rattle.core_tree.specs.Trees.{Place, Expression, constant, read, convert, sign, is_zero, arithmetic, compare, logical, choice, assign, update, step, comma, assertion, assumption, draw, part, discard, discard_structure, call, function_name, size_of_value, size_of_structure, address, sum, distance, relation, pointer_update, pointer_step, allocate, allocate_zeroed, release, exit, abort}
use Rattle.core_tree.specs.Typed.{type_of, is_shift}
use Rattle.c_scope.specs.Faults.{◌>>=◌, required}

-- a typed node, or the rule that is broken
abbrev pub Node : Type 0
Node = Result Expression ℕ

-- ---- types

abbrev pub integer_of : ValueType → Option IntegerType
integer_of Void = None
integer_of (Integer t) = Some t

abbrev pub integer : ℕ → Expression → Result IntegerType ℕ
integer rule e = required rule (integer_of (type_of e))

-- the value in a type: a conversion stands only where it changes the type
abbrev pub as_type : IntegerType → Expression → Expression
as_type t e = if same_type (type_of e) (Integer t) then e else convert t e

abbrev pub place_of : Expression → Option Place
place_of (constant line t bits) = None
place_of (read t p) = Some p
place_of (convert to e) = None
place_of (sign line op e) = None
place_of (is_zero line e) = None
place_of (arithmetic line op a b) = None
place_of (compare line op a b) = None
place_of (logical line op a b) = None
place_of (choice line test a b) = None
place_of (assign line t p e) = None
place_of (update line t p op u e) = None
place_of (step line t p op before) = None
place_of (comma line a b) = None
place_of (assertion line e) = None
place_of (assumption line e) = None
place_of (draw line t) = None
place_of (part line t offset a) = None
place_of (discard line e) = None
place_of (discard_structure a) = None
place_of (call line f used t args) = None
place_of (function_name line) = None
place_of (size_of_value line bits e) = None
place_of (size_of_structure line bits a) = None
place_of (address line p) = None
place_of (sum line a e n swapped) = None
place_of (distance line a b n) = None
place_of (relation line op a b) = None
place_of (pointer_update line p n e) = None
place_of (pointer_step line p n before) = None
place_of (allocate line e) = None
place_of (allocate_zeroed line a b) = None
place_of (release line e) = None
place_of (exit line e) = None
place_of (abort line) = None

-- the place that may be changed, which isn't const
abbrev pub target_of : Bool → Expression → Option Place
target_of is_const e = if is_const then None else place_of e

-- ---- constants

abbrev pub constant_type : ConstantType → IntegerType
constant_type constants.Int = types.Int
constant_type constants.UnsignedInt = types.UnsignedInt
constant_type constants.Long = types.Long
constant_type constants.UnsignedLong = types.UnsignedLong
constant_type constants.LongLong = types.LongLong
constant_type constants.UnsignedLongLong = types.UnsignedLongLong

-- a constant's type holds its value (C11 6.4.4.1p5)
abbrev pub constant_node : ℕ → Constant → Expression
constant_node line c = let t = constant_type c.type_ in constant line t (c.value % 2 ^ width t)

-- a character constant is of type int (C11 6.4.4.4p10)
abbrev pub character_node : ℕ → ℕ → Expression
character_node line bits = constant line types.Int (bits % 2 ^ 32)

-- ---- sizeof (C11 6.5.3.4)

-- a constant of type unsigned long
abbrev pub size_node : ℕ → ℕ → Expression
size_node line n = constant line types.UnsignedLong (n % 2 ^ 64)

-- the bytes of an expression's type
abbrev pub value_size : ValueType → Result ℕ ℕ
value_size Void = Err 3
value_size (Integer t) = Ok (bytes t)

-- ---- casts (C11 6.5.4)

-- a value that is cast to void isn't used
abbrev pub discarded : ℕ → ValueType → Expression → Expression
discarded line Void e = e
discarded line (Integer t) e = discard line e

-- a cast is no place, also where it keeps the type
abbrev pub cast_node : ℕ → CType → Expression → Node
cast_node line ctypes.void e = Ok (discarded line (type_of e) e)
cast_node line (ctypes.integer t) e = do
  u ← integer 7 e
  Ok (convert t e)
cast_node line (ctypes.aggregate p) e = Err 7
cast_node line (ctypes.array element n) e = Err 7
cast_node line (ctypes.pointer t c) e = do
  u ← integer 7 e
  Ok (convert types.UnsignedLong e)
cast_node line (ctypes.function f) e = Err 7

-- ---- unary operators (C11 6.5.3.3)

abbrev pub sign_node : ℕ → SignOperator → Expression → Node
sign_node line op e = do
  t ← integer 7 e
  Ok (sign line op (as_type (promoted t) e))

abbrev pub not_node : ℕ → Expression → Node
not_node line e = do
  t ← integer 7 e
  Ok (is_zero line e)

-- `++` and `--` (C11 6.5.2.4, 6.5.3.1)
abbrev pub step_node : Bool → ℕ → StepOperator → Bool → Expression → Node
step_node is_const line op before e = do
  t ← integer 7 e
  p ← required 9 (target_of is_const e)
  Ok (step line t p op before)

abbrev pub unary_node : Bool → ℕ → UnaryOp → Expression → Node
unary_node is_const line unaries.Increment e = step_node is_const line steps.Increment true e
unary_node is_const line unaries.Decrement e = step_node is_const line steps.Decrement true e
unary_node is_const line unaries.Plus e = sign_node line signs.Plus e
unary_node is_const line unaries.Minus e = sign_node line signs.Minus e
unary_node is_const line unaries.Complement e = sign_node line signs.Complement e
unary_node is_const line unaries.Not e = not_node line e

abbrev pub postfix_node : Bool → ℕ → StepOp → Expression → Node
postfix_node is_const line postfixes.Increment e = step_node is_const line steps.Increment false e
postfix_node is_const line postfixes.Decrement e = step_node is_const line steps.Decrement false e

-- ---- binary operators (C11 6.5.5 to 6.5.14)

-- the types of a place or an operand and of the one beside it, as an operator wants them
abbrev pub left_type : ArithmeticOperator → IntegerType → IntegerType → IntegerType
left_type op t u = if is_shift op then promoted t else common_type t u

abbrev pub right_type : ArithmeticOperator → IntegerType → IntegerType → IntegerType
right_type op t u = if is_shift op then promoted u else common_type t u

abbrev pub arithmetic_node : ℕ → ArithmeticOperator → Expression → Expression → Node
arithmetic_node line op a b = do
  t ← integer 7 a
  u ← integer 7 b
  Ok (arithmetic line op (as_type (left_type op t u) a) (as_type (right_type op t u) b))

abbrev pub compare_node : ℕ → Comparison → Expression → Expression → Node
compare_node line op a b = do
  t ← integer 7 a
  u ← integer 7 b
  Ok (compare line op (as_type (common_type t u) a) (as_type (common_type t u) b))

abbrev pub logical_node : ℕ → LogicalOperator → Expression → Expression → Node
logical_node line op a b = do
  t ← integer 7 a
  u ← integer 7 b
  Ok (logical line op a b)

abbrev pub binary_node : ℕ → BinaryOp → Expression → Expression → Node
binary_node line binaries.LogicalOr a b = logical_node line logicals.Or a b
binary_node line binaries.LogicalAnd a b = logical_node line logicals.And a b
binary_node line binaries.Or a b = arithmetic_node line arithmetics.Or a b
binary_node line binaries.Xor a b = arithmetic_node line arithmetics.Xor a b
binary_node line binaries.And a b = arithmetic_node line arithmetics.And a b
binary_node line binaries.Equal a b = compare_node line comparisons.Equal a b
binary_node line binaries.NotEqual a b = compare_node line comparisons.NotEqual a b
binary_node line binaries.Less a b = compare_node line comparisons.Less a b
binary_node line binaries.Greater a b = compare_node line comparisons.Greater a b
binary_node line binaries.LessEqual a b = compare_node line comparisons.LessEqual a b
binary_node line binaries.GreaterEqual a b = compare_node line comparisons.GreaterEqual a b
binary_node line binaries.ShiftLeft a b = arithmetic_node line arithmetics.ShiftLeft a b
binary_node line binaries.ShiftRight a b = arithmetic_node line arithmetics.ShiftRight a b
binary_node line binaries.Add a b = arithmetic_node line arithmetics.Add a b
binary_node line binaries.Subtract a b = arithmetic_node line arithmetics.Subtract a b
binary_node line binaries.Multiply a b = arithmetic_node line arithmetics.Multiply a b
binary_node line binaries.Divide a b = arithmetic_node line arithmetics.Divide a b
binary_node line binaries.Remainder a b = arithmetic_node line arithmetics.Remainder a b

-- ---- `?:` (C11 6.5.15): two integers, or neither has a value

abbrev pub chosen : ℕ → Expression → ValueType → ValueType → Expression → Expression → Node
chosen line test (Integer t) (Integer u) a b = Ok (choice line test (as_type (common_type t u) a) (as_type (common_type t u) b))
chosen line test Void Void a b = Ok (choice line test a b)
chosen line test (Integer t) Void a b = Err 7
chosen line test Void (Integer u) a b = Err 7

abbrev pub choice_node : ℕ → Expression → Expression → Expression → Node
choice_node line test a b = do
  t ← integer 7 test
  chosen line test (type_of a) (type_of b) a b

-- ---- assignments (C11 6.5.16)

abbrev pub assign_node : Bool → ℕ → Expression → Expression → Node
assign_node is_const line place value = do
  t ← integer 8 place
  u ← integer 8 value
  p ← required 9 (target_of is_const place)
  Ok (assign line t p (as_type t value))

-- the operators that can stand before `=`
abbrev pub operator_of : BinaryOp → Option ArithmeticOperator
operator_of binaries.LogicalOr = None
operator_of binaries.LogicalAnd = None
operator_of binaries.Or = Some arithmetics.Or
operator_of binaries.Xor = Some arithmetics.Xor
operator_of binaries.And = Some arithmetics.And
operator_of binaries.Equal = None
operator_of binaries.NotEqual = None
operator_of binaries.Less = None
operator_of binaries.Greater = None
operator_of binaries.LessEqual = None
operator_of binaries.GreaterEqual = None
operator_of binaries.ShiftLeft = Some arithmetics.ShiftLeft
operator_of binaries.ShiftRight = Some arithmetics.ShiftRight
operator_of binaries.Add = Some arithmetics.Add
operator_of binaries.Subtract = Some arithmetics.Subtract
operator_of binaries.Multiply = Some arithmetics.Multiply
operator_of binaries.Divide = Some arithmetics.Divide
operator_of binaries.Remainder = Some arithmetics.Remainder

abbrev pub update_node : Bool → ℕ → BinaryOp → Expression → Expression → Node
update_node is_const line op place value = do
  operator ← required 7 (operator_of op)
  t ← integer 7 place
  u ← integer 7 value
  p ← required 9 (target_of is_const place)
  Ok (update line t p operator (left_type operator t u) (as_type (right_type operator t u) value))

abbrev pub assignment_node : Bool → ℕ → Option BinaryOp → Expression → Expression → Node
assignment_node is_const line None place value = assign_node is_const line place value
assignment_node is_const line (Some op) place value = update_node is_const line op place value
