-- What an operator makes of typed operands, or the lowest rule that they break (C11 6.3.2.1, 6.5).
use Rattle.std.specs.Prelude.{ℕ, ◌==◌, ◌%◌, ◌^◌, Bool, true, false, not, ◌||◌, ◌&&◌, List, [], ◌∷◌, map, reverse, slice_get, Option, Some, None, Result, Ok, Err, if◌then◌else◌}
use Rattle.c_tree.specs.declared.expr.BinaryOp.{BinaryOp}
use Rattle.c_tree.specs.declared.expr.UnaryOp.{UnaryOp}
use Rattle.c_tree.specs.declared.expr.StepOp.{StepOp}
use Rattle.c_types.specs.declared.integers.IntegerType.{IntegerType}
use Rattle.c_types.specs.declared.integers.IntegerType.TheVariants as types
use Rattle.c_types.specs.declared.types.ValueType.TheVariants.{Void, Integer}
use Rattle.c_types.specs.Types.{CType, Completed}
use Rattle.c_types.specs.Types as ctypes
use Rattle.c_types.specs.Types.{view as view_type}
use Rattle.c_types.specs.Layouts.{size_of}
use Rattle.core_tree.specs.Trees.{Place, Expression, Structure, Arguments, no_argument, number_argument, structure_argument, view, view_structure}
use Rattle.core_tree.specs.Trees as cores
use Rattle.core_tree.specs.Typed.{type_of, is_typed, is_structure, is_within, is_in_object}
use Rattle.core_tree.specs.Typed as typed_trees
use Rattle.c_values.specs.Numbers.{TypedNumber}
use Rattle.c_scope.specs.declared.meaning.Meaning.{Meaning}
use Rattle.c_scope.specs.declared.meaning.Meaning.TheVariants.{Variable, Object, Incomplete, Assert, Assume, Draw, BuiltIn, Function, Typedef, Enumerator, Record, Enumeration}
use Rattle.c_operands.specs.declared.operands.Home.{Home}
use Rattle.c_operands.specs.declared.operands.Home.TheVariants as homes
use Rattle.c_operands.specs.declared.operands.CoreOperand.{CoreOperand}
use Rattle.c_operands.specs.declared.operands.CoreOperand.TheVariants as codes
use Rattle.c_scope.specs.Members.{found, members_in, part_at}
use Rattle.c_scope.specs.Scopes.{Named, ObjectEntry, FunctionType, Callable, Scoped, object_at, is_incomplete, all_sizes}
use Rattle.c_scope.specs.Types.{type_size}
use Rattle.c_operands.specs.Constants.{constant_of}
use Rattle.c_scope.specs.Faults.{◌>>=◌, required}
use Rattle.c_operands.specs.Nodes.{Node, integer, as_type, character_node, unary_node, postfix_node, binary_node, choice_node, assignment_node, cast_node, value_size}

-- A value of integer type or void, and whether it is a place that is const; a place of struct, union or array type: its line, the
-- variable or the object that it lies in, the offset in it in bytes, the type, and whether it is const; or a value of such a type
-- that is no place.
pub data Operand : Type 0 where
  value : (expression : Expression) (constant : Bool) → Operand
  object : (line : ℕ) (home : Home) (offset : ℕ) (type : CType) (constant : Bool) → Operand
  structure : (type : CType) (value : Structure) → Operand

abbrev pub view_operand : CoreOperand → Operand
view_operand (codes.Value e constant) = value (view e.value) constant
view_operand (codes.Object line v offset t constant) = object line v offset (view_type t) constant
view_operand (codes.Structure t a) = structure (view_type t) (view_structure a.value)

-- ---- places

-- the place at an offset of a variable or an object
abbrev pub home_place : Home → (line offset : ℕ) → Place
home_place (homes.Variable v) line offset = cores.variable_at line v offset
home_place (homes.Object k) line offset = cores.object_at line k offset

-- so many bytes from an offset on
abbrev pub held_value : Home → (line offset size : ℕ) → Structure
held_value v line offset size = cores.copy (home_place v line offset) size

-- an assignment on a line, of bytes that take the place of those from an offset on
abbrev pub put_value : (line at : ℕ) → Home → (offset : ℕ) → Structure → Structure
put_value line at v offset a = cores.put line (home_place v at offset) a

-- so many bytes from an offset on lie in it
abbrev pub is_home : typed_trees.Sizes → Home → ℕ → ℕ → Bool
is_home sizes (homes.Variable v) offset count = is_within sizes.variables v offset count
is_home sizes (homes.Object k) offset count = is_in_object sizes.objects k offset count

-- a typed operand, or the rule that is broken
abbrev pub OperandNode : Type 0
OperandNode = Result Operand ℕ

-- a value that is no place
abbrev pub computed : Node → OperandNode
computed node = node >>= λ e. Ok (value e false)

-- the expression of an operand that is a value
abbrev pub valued : ℕ → Operand → Node
valued rule (value e constant) = Ok e
valued rule (object line v offset t constant) = Err rule
valued rule (structure t a) = Err rule

-- and is of an integer type
abbrev pub number : ℕ → Operand → Node
number rule x = do
  e ← valued rule x
  t ← integer rule e
  Ok e

-- one struct or union type
abbrev pub same_record : CType → CType → Bool
same_record ctypes.void u = false
same_record (ctypes.integer t) u = false
same_record (ctypes.aggregate p) ctypes.void = false
same_record (ctypes.aggregate p) (ctypes.integer t) = false
same_record (ctypes.aggregate p) (ctypes.aggregate q) = p == q
same_record (ctypes.aggregate p) (ctypes.array element n) = false
same_record (ctypes.aggregate p) (ctypes.pointer t c) = false
same_record (ctypes.aggregate p) (ctypes.function f) = false
same_record (ctypes.array element n) u = false
same_record (ctypes.pointer t c) u = false
same_record (ctypes.function f) u = false

-- the value of an operand of this struct or union type
abbrev pub record_value : List Completed → CType → Operand → Option Structure
record_value done t (value e constant) = None
record_value done t (object line v offset u constant) = if same_record t u then Some (held_value v line offset (size_of done u)) else None
record_value done t (structure u a) = if same_record t u then Some a else None

-- the expression of an operand whose value isn't used
abbrev pub dropped : List Completed → Operand → Expression
dropped done (value e constant) = e
dropped done (object line v offset t constant) = cores.discard_structure (held_value v line offset (size_of done t))
dropped done (structure t a) = cores.discard_structure a

-- ---- arrays

abbrev pub is_array : CType → Bool
is_array ctypes.void = false
is_array (ctypes.integer t) = false
is_array (ctypes.aggregate p) = false
is_array (ctypes.array element n) = true
is_array (ctypes.pointer t c) = false
is_array (ctypes.function f) = false

-- A value that is wanted or not, within the operand of a `sizeof` or not. Rule 7: an array is the operand of `sizeof` alone; rule 9: also
-- one in a value that is no place. Within that operand one whose value isn't wanted breaks neither.
abbrev pub used : (measured wanted : Bool) → Operand → OperandNode
used measured wanted (value e constant) = Ok (value e constant)
used measured wanted (object line v offset t constant) = if (not measured || wanted) && is_array t then Err 7 else Ok (object line v offset t constant)
used measured wanted (structure t a) = if (not measured || wanted) && is_array t then Err 9 else Ok (structure t a)

-- ---- names and members

-- the place of this type at an offset in a variable or an object
abbrev pub place_operand : ℕ → Home → ℕ → CType → Bool → Operand
place_operand line v offset ctypes.void constant = object line v offset ctypes.void constant
place_operand line v offset (ctypes.integer t) constant = value (cores.read t (home_place v line offset)) constant
place_operand line v offset (ctypes.aggregate p) constant = object line v offset (ctypes.aggregate p) constant
place_operand line v offset (ctypes.array element n) constant = object line v offset (ctypes.array element n) constant
place_operand line v offset (ctypes.pointer t c) constant = value (cores.read types.UnsignedLong (home_place v line offset)) constant
place_operand line v offset (ctypes.function f) constant = object line v offset (ctypes.function f) constant

abbrev pub variable_node : ℕ → ℕ → Option Named → OperandNode
variable_node line v None = Err 1
variable_node line v (Some n) = Ok (place_operand line (homes.Variable v) 0 n.type n.constant)

-- rule 3: an object whose type is incomplete here is no operand
abbrev pub object_entry_node : List Completed → ℕ → ℕ → Option ObjectEntry → OperandNode
object_entry_node done line k None = Err 1
object_entry_node done line k (Some o) = if is_incomplete done o then Err 3 else Ok (place_operand line (homes.Object k) 0 o.named.type o.named.constant)

-- the name of a function, which has no value where it isn't called
abbrev pub function_node : ℕ → ℕ → Option Callable → OperandNode
function_node line f None = Err 1
function_node line f (Some c) = computed (Ok (cores.function_name line))

-- A built-in function's name stands as that of any function, and a type's name where a type is named; rule 3: a variable whose length
-- its initializer says is no operand in this. An enumerator is a constant of type int (C11 6.7.2.2p3).
abbrev pub name_node : Scoped → ℕ → Option Meaning → OperandNode
name_node s line None = Err 1
name_node s line (Some (Variable v)) = variable_node line v (slice_get s.variables v)
name_node s line (Some (Object k)) = object_entry_node s.records.done line k (object_at s k)
name_node s line (Some Incomplete) = Err 3
name_node s line (Some Assert) = computed (Ok (cores.function_name line))
name_node s line (Some Assume) = computed (Ok (cores.function_name line))
name_node s line (Some (Draw t)) = computed (Ok (cores.function_name line))
name_node s line (Some (BuiltIn b)) = computed (Ok (cores.function_name line))
name_node s line (Some (Function f)) = function_node line f (slice_get s.functions.all f)
name_node s line (Some (Typedef n)) = Err 7
name_node s line (Some (Enumerator bits)) = computed (Ok (character_node line bits))
name_node s line (Some (Record p)) = Err 7
name_node s line (Some Enumeration) = Err 7

-- the part of this type at an offset of a value that is no place
abbrev pub part_operand : List Completed → ℕ → ℕ → CType → Structure → Operand
part_operand done line offset ctypes.void a = structure ctypes.void (cores.section line offset (size_of done ctypes.void) a)
part_operand done line offset (ctypes.integer t) a = value (cores.part line t offset a) false
part_operand done line offset (ctypes.aggregate p) a = structure (ctypes.aggregate p) (cores.section line offset (size_of done (ctypes.aggregate p)) a)
part_operand done line offset (ctypes.array element n) a = structure (ctypes.array element n) (cores.section line offset (size_of done (ctypes.array element n)) a)
part_operand done line offset (ctypes.pointer t c) a = value (cores.part line types.UnsignedLong offset a) false
part_operand done line offset (ctypes.function f) a = structure (ctypes.function f) (cores.section line offset (size_of done (ctypes.function f)) a)

-- Rule 11: a struct or union has a member of that name. The member of a place is const where it or the whole is (C11 6.5.2.3p3).
abbrev pub member_node : Scoped → ℕ → Operand → List ℕ → OperandNode
member_node s line (value e constant) name = Err 11
member_node s line (object at v offset t constant) name = do
  way ← required 11 (found (members_in s.members t).named name)
  part ← required 11 (part_at s.records.done offset t way.0)
  Ok (place_operand line v part.0 part.1 (constant || way.1))
member_node s line (structure t a) name = do
  way ← required 11 (found (members_in s.members t).named name)
  part ← required 11 (part_at s.records.done 0 t way.0)
  Ok (part_operand s.records.done line part.0 part.1 a)

-- ---- sizeof and constants

-- the bytes of an operand's type
abbrev pub operand_bytes : List Completed → Operand → Result ℕ ℕ
operand_bytes done (value e constant) = value_size (type_of e)
operand_bytes done (object line v offset t constant) = type_size done t
operand_bytes done (structure t a) = type_size done t

-- its size in a constant of type unsigned long: the operand isn't evaluated (C11 6.5.3.4p2)
abbrev pub sized_operand : List Completed → ℕ → ℕ → Operand → Operand
sized_operand done line n (value e constant) = value (cores.size_of_value line (n % 2 ^ 64) e) false
sized_operand done line n (object at v offset t constant) = value (cores.size_of_structure line (n % 2 ^ 64) (held_value v at offset (size_of done t))) false
sized_operand done line n (structure t a) = value (cores.size_of_structure line (n % 2 ^ 64) a) false

-- its value, where it is an integer constant expression
abbrev pub constant_in : Operand → Option TypedNumber
constant_in (value e constant) = constant_of e
constant_in (object line v offset t constant) = None
constant_in (structure t a) = None

-- ---- operators

abbrev pub cast_record : List Completed → CType → Operand → OperandNode
cast_record done ctypes.void x = Ok (value (dropped done x) false)
cast_record done (ctypes.integer t) x = Err 7
cast_record done (ctypes.aggregate p) x = Err 7
cast_record done (ctypes.array element n) x = Err 7
cast_record done (ctypes.pointer t c) x = Err 7
cast_record done (ctypes.function f) x = Err 7

abbrev pub cast_operand : List Completed → ℕ → CType → Operand → OperandNode
cast_operand done line t (value e constant) = computed (cast_node line t e)
cast_operand done line t (object at v offset u constant) = cast_record done t (object at v offset u constant)
cast_operand done line t (structure u a) = cast_record done t (structure u a)

abbrev pub unary_operand : ℕ → UnaryOp → Operand → OperandNode
unary_operand line op (value e constant) = computed (unary_node constant line op e)
unary_operand line op (object at v offset t constant) = Err 7
unary_operand line op (structure t a) = Err 7

abbrev pub postfix_operand : ℕ → StepOp → Operand → OperandNode
postfix_operand line op (value e constant) = computed (postfix_node constant line op e)
postfix_operand line op (object at v offset t constant) = Err 7
postfix_operand line op (structure t a) = Err 7

abbrev pub binary_operand : ℕ → BinaryOp → Operand → Operand → OperandNode
binary_operand line op x y = do
  a ← valued 7 x
  b ← valued 7 y
  computed (binary_node line op a b)

-- two values of one struct or union type
abbrev pub choice_record : List Completed → ℕ → Operand → CType → Structure → Operand → OperandNode
choice_record done line x t a z = do
  test ← number 7 x
  b ← required 7 (record_value done t z)
  Ok (structure t (cores.choose line test a b))

abbrev pub choice_value : ℕ → Operand → Expression → Operand → OperandNode
choice_value line x a (value b constant) = do
  test ← valued 7 x
  computed (choice_node line test a b)
choice_value line x a (object at v offset t constant) = Err 7
choice_value line x a (structure t b) = Err 7

abbrev pub choice_operand : List Completed → ℕ → Operand → Operand → Operand → OperandNode
choice_operand done line x (value a constant) z = choice_value line x a z
choice_operand done line x (object at v offset t constant) z = choice_record done line x t (held_value v at offset (size_of done t)) z
choice_operand done line x (structure t a) z = choice_record done line x t a z

abbrev pub assign_value : Bool → ℕ → Option BinaryOp → Expression → Operand → OperandNode
assign_value is_const line op p (value e constant) = computed (assignment_node is_const line op p e)
assign_value is_const line None p (object at v offset t constant) = Err 8
assign_value is_const line None p (structure t a) = Err 8
assign_value is_const line (Some op) p (object at v offset t constant) = Err 7
assign_value is_const line (Some op) p (structure t a) = Err 7

-- rules 8 and 9: the same struct or union, and no part of the place is const
abbrev pub assign_record : Scoped → (line at : ℕ) → Home → ℕ → CType → Bool → Operand → OperandNode
assign_record s line at v offset t is_const y = do
  a ← required 8 (record_value s.records.done t y)
  if is_const || (members_in s.members t).constant then Err 9 else Ok (structure t (put_value line at v offset a))

-- a value is no place
abbrev pub assign_nothing : List Completed → CType → Operand → OperandNode
assign_nothing done t y = do
  a ← required 8 (record_value done t y)
  Err 9

abbrev pub assign_operand : Scoped → ℕ → Option BinaryOp → Operand → Operand → OperandNode
assign_operand s line op (value p constant) y = assign_value constant line op p y
assign_operand s line None (object at v offset t constant) y = assign_record s line at v offset t constant y
assign_operand s line None (structure t a) y = assign_nothing s.records.done t y
assign_operand s line (Some op) (object at v offset t constant) y = Err 7
assign_operand s line (Some op) (structure t a) y = Err 7

abbrev pub comma_operand : List Completed → ℕ → Operand → Operand → Operand
comma_operand done line x (value b constant) = value (cores.comma line (dropped done x) b) false
comma_operand done line x (object at v offset t constant) = structure t (cores.follow line (dropped done x) (held_value v at offset (size_of done t)))
comma_operand done line x (structure t b) = structure t (cores.follow line (dropped done x) b)

-- ---- calls (C11 6.5.2.2)

-- the one argument of an integer type
abbrev pub one_integer : List Operand → Node
one_integer [] = Err 10
one_integer (x ∷ []) = number 8 x
one_integer (x ∷ y ∷ rest) = do
  a ← number 8 x
  Err 10

abbrev pub no_arguments : List Operand → Expression → Node
no_arguments [] e = Ok e
no_arguments (x ∷ rest) e = Err 10

-- an argument in front of others, converted to its parameter's type as by assignment; rule 8: it is assignable (C11 6.5.2.2p2, p7)
abbrev pub argument_in : List Completed → CType → Operand → Result (Arguments → Arguments) ℕ
argument_in done ctypes.void x = Err 8
argument_in done (ctypes.integer t) x = do
  e ← number 8 x
  Ok (number_argument (as_type t e))
argument_in done (ctypes.aggregate p) x = do
  a ← required 8 (record_value done (ctypes.aggregate p) x)
  Ok (structure_argument a)
argument_in done (ctypes.array element n) x = Err 8
argument_in done (ctypes.pointer t c) x = Err 8
argument_in done (ctypes.function f) x = Err 8

-- those of the parameters, and the arguments behind them; rule 10: there are as many
abbrev pub arguments_in : List Completed → List CType → List Operand → Result (Arguments × List Operand) ℕ
arguments_in done [] xs = Ok (no_argument, xs)
arguments_in done (t ∷ ts) [] = Err 10
arguments_in done (t ∷ ts) (x ∷ xs) = do
  a ← argument_in done t x
  rest ← arguments_in done ts xs
  Ok (a rest.0, rest.1)

-- rule 10: only an ellipsis takes more; rule 8: these are of integer types
abbrev pub extra_arguments : Bool → List Operand → Result (List Expression) ℕ
extra_arguments ellipsis [] = Ok []
extra_arguments false (x ∷ xs) = Err 10
extra_arguments true (x ∷ xs) = do
  e ← number 8 x
  es ← extra_arguments true xs
  Ok (e ∷ es)

-- rule 3: what a call gives is void or complete, and how many bytes that has (C11 6.5.2.2p1)
abbrev pub given_size : List Completed → CType → Result ℕ ℕ
given_size done ctypes.void = Ok 0
given_size done (ctypes.integer t) = type_size done (ctypes.integer t)
given_size done (ctypes.aggregate p) = type_size done (ctypes.aggregate p)
given_size done (ctypes.array element n) = type_size done (ctypes.array element n)
given_size done (ctypes.pointer t c) = type_size done (ctypes.pointer t c)
given_size done (ctypes.function f) = type_size done (ctypes.function f)

-- a call of the function with a number, which gives this type; a value is used where it is wanted
abbrev pub given_operand : List Completed → (line f : ℕ) → Bool → CType → Arguments → Operand
given_operand done line f wanted ctypes.void args = value (cores.call line f false Void args) false
given_operand done line f wanted (ctypes.integer t) args = value (cores.call line f wanted (Integer t) args) false
given_operand done line f wanted (ctypes.aggregate p) args = structure (ctypes.aggregate p) (cores.give line f wanted (size_of done (ctypes.aggregate p)) args)
given_operand done line f wanted (ctypes.array element n) args = structure (ctypes.array element n) (cores.give line f wanted (size_of done (ctypes.array element n)) args)
given_operand done line f wanted (ctypes.pointer t c) args = value (cores.call line f wanted (Integer types.UnsignedLong) args) false
given_operand done line f wanted (ctypes.function g) args = structure (ctypes.function g) (cores.give line f wanted (size_of done (ctypes.function g)) args)

-- what an ellipsis takes goes before the call: no function with one is called in a file that is run
abbrev pub behind_extra : List Completed → ℕ → List Expression → Operand → Operand
behind_extra done line [] x = x
behind_extra done line (e ∷ es) x = comma_operand done line (value e false) (behind_extra done line es x)

abbrev pub function_call : List Completed → (line f : ℕ) → Bool → FunctionType → List Operand → OperandNode
function_call done line f wanted t xs = do
  size ← given_size done t.gives.type
  args ← arguments_in done t.parameters xs
  es ← extra_arguments t.ellipsis args.1
  Ok (behind_extra done line es (given_operand done line f wanted t.gives.type args.0))

-- a function that draws from the inputs has no body
abbrev pub drawn_or_called : List Completed → (line f : ℕ) → Bool → Option IntegerType → FunctionType → List Operand → OperandNode
drawn_or_called done line f wanted None t xs = function_call done line f wanted t xs
drawn_or_called done line f wanted (Some u) t xs = computed (no_arguments xs (cores.draw line u))

abbrev pub callable_call : List Completed → (line f : ℕ) → Bool → Option Callable → List Operand → OperandNode
callable_call done line f wanted None xs = Err 10
callable_call done line f wanted (Some c) xs = drawn_or_called done line f wanted c.draws c.type xs

abbrev pub assertion_call : ℕ → List Operand → Node
assertion_call line xs = do
  a ← one_integer xs
  Ok (cores.assertion line a)

abbrev pub assumption_call : ℕ → List Operand → Node
assumption_call line xs = do
  a ← one_integer xs
  Ok (cores.assumption line a)

-- what a call of what a name on this line means is, whose value is wanted or not
abbrev pub call_node : Scoped → ℕ → Bool → Meaning → List Operand → OperandNode
call_node s line wanted (Variable v) xs = Err 10
call_node s line wanted (Object k) xs = Err 10
call_node s line wanted Incomplete xs = Err 10
call_node s line wanted Assert xs = computed (assertion_call line xs)
call_node s line wanted Assume xs = computed (assumption_call line xs)
call_node s line wanted (Draw t) xs = computed (no_arguments xs (cores.draw line t))
call_node s line wanted (BuiltIn b) xs = Err 10
call_node s line wanted (Function f) xs = callable_call s.records.done line f wanted (slice_get s.functions.all f) xs
call_node s line wanted (Typedef n) xs = Err 10
call_node s line wanted (Enumerator bits) xs = Err 10
call_node s line wanted (Record p) xs = Err 10
call_node s line wanted Enumeration xs = Err 10

-- operands that stand in memory in turned order
abbrev pub turned : List CoreOperand → List Operand
turned xs = map view_operand (reverse xs)

-- ---- what is true of a typed operand

-- a typed value, a place that lies in its variable or object, or a typed value that has as many bytes as its type
abbrev pub is_typed_operand : Scoped → Operand → Bool
is_typed_operand s (value e constant) = is_typed (all_sizes s) e
is_typed_operand s (object line v offset t constant) = is_home (all_sizes s) v offset (size_of s.records.done t)
is_typed_operand s (structure t a) = is_structure (all_sizes s) a && typed_trees.size_of a == size_of s.records.done t
