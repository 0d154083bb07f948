-- What an operator makes of typed operands, pointers among them, or the lowest rule that they break (C11 6.3.2, 6.5). A value
-- stands here with its C type: below a pointer is a number of 64 bits.
use Rattle.std.specs.Prelude.{ℕ, ℤ, pos, negsuc, zero, suc, ◌+◌, ◌==◌, ◌%◌, ◌^◌, Bool, true, false, not, ◌||◌, ◌&&◌, List, Option, Some, None, Result, Ok, Err, Box, if◌then◌else◌}
use Rattle.std.specs.Global.{Global}
use Rattle.c_tree.specs.declared.expr.BinaryOp.{BinaryOp}
use Rattle.c_tree.specs.declared.expr.BinaryOp.TheVariants as binaries
use Rattle.c_types.specs.declared.integers.IntegerType.{IntegerType}
use Rattle.c_types.specs.declared.integers.IntegerType.TheVariants as types
use Rattle.c_types.specs.Integers.{promoted, common_type}
use Rattle.c_types.specs.Types.{CType, Completed}
use Rattle.c_types.specs.Types as ctypes
use Rattle.c_types.specs.Types.{view as view_type}
use Rattle.c_types.specs.Layouts.{size_of}
use Rattle.core_tree.specs.declared.expression.CoreExpr.{CoreExpr}
use Rattle.core_tree.specs.declared.operators.Comparison.{Comparison}
use Rattle.core_tree.specs.declared.operators.Comparison.TheVariants as comparisons
use Rattle.core_tree.specs.declared.operators.LogicalOperator.{LogicalOperator}
use Rattle.core_tree.specs.declared.operators.LogicalOperator.TheVariants as logicals
use Rattle.core_tree.specs.declared.operators.SignOperator.{SignOperator}
use Rattle.core_tree.specs.declared.operators.StepOperator.{StepOperator}
use Rattle.core_tree.specs.declared.operators.StepOperator.TheVariants as steps
use Rattle.core_tree.specs.Trees.{Place, variable_at, object_at, literal_at, pointed, arrow, member, element, subscript, Expression, Structure, view, view_place, view_structure}
use Rattle.core_tree.specs.Trees as cores
use Rattle.core_tree.specs.Typed.{object_size}
use Rattle.c_values.specs.Numbers.{TypedNumber}
use Rattle.c_scope.specs.Members.{found, members_in, part_at}
use Rattle.c_scope.specs.Scopes.{Named, ObjectEntry, FunctionType, Scoped, is_incomplete, all_sizes}
use Rattle.c_scope.specs.Functions.{same_ctype, type_place}
use Rattle.c_scope.specs.Types.{type_size}
use Rattle.c_scope.specs.Faults.{◌>>=◌, required}
use Rattle.c_operators.specs.declared.typed_operands.TypedOperand.{TypedOperand}
use Rattle.c_operators.specs.declared.typed_operands.TypedOperand.TheVariants as codes
use Rattle.c_operands.specs.Constants.{constant_of}
use Rattle.c_operands.specs.Nodes.{as_type, left_type, right_type, operator_of, binary_node}

-- A value of a scalar type or of none, and whether it is the null pointer constant of type `void *`; a place of an object type,
-- and whether it is const; a value of a struct or union type that is no place, or of an array in one; or a function, by the place
-- of its type among those of the file, with the expression that stands for its address.
pub data Operand : Type 0 where
  value : (type : CType) (null : Bool) (expression : Expression) → Operand
  place : (type : CType) (constant : Bool) (at : Place) → Operand
  structure : (type : CType) (whole : Structure) → Operand
  designator : (type : ℕ) (address : Expression) → Operand

abbrev pub view_typed : TypedOperand → Operand
view_typed (codes.Value t null e) = value (view_type t) null (view e.value)
view_typed (codes.Place t constant p) = place (view_type t) constant (view_place p.value)
view_typed (codes.Structure t a) = structure (view_type t) (view_structure a.value)
view_typed (codes.Designator t e) = designator t (view e.value)

-- a typed operand, or the rule that is broken
abbrev pub OperandNode : Type 0
OperandNode = Result Operand ℕ

-- a value that is no null pointer constant
abbrev pub plain : CType → Expression → Operand
plain t e = value t false e

abbrev pub int_type : CType
int_type = ctypes.integer types.Int

-- ---- types

-- the type of the number that a value of a scalar type is (C11 6.2.5p21)
abbrev pub scalar_of : CType → Option IntegerType
scalar_of ctypes.void = None
scalar_of (ctypes.integer t) = Some t
scalar_of (ctypes.aggregate p) = None
scalar_of (ctypes.array e n) = None
scalar_of (ctypes.pointer t c) = Some types.UnsignedLong
scalar_of (ctypes.function f) = None

abbrev pub integer_of : CType → Option IntegerType
integer_of ctypes.void = None
integer_of (ctypes.integer t) = Some t
integer_of (ctypes.aggregate p) = None
integer_of (ctypes.array e n) = None
integer_of (ctypes.pointer t c) = None
integer_of (ctypes.function f) = None

abbrev pub is_void : CType → Bool
is_void ctypes.void = true
is_void (ctypes.integer t) = false
is_void (ctypes.aggregate p) = false
is_void (ctypes.array e n) = false
is_void (ctypes.pointer t c) = false
is_void (ctypes.function f) = false

abbrev pub is_function : CType → Bool
is_function ctypes.void = false
is_function (ctypes.integer t) = false
is_function (ctypes.aggregate p) = false
is_function (ctypes.array e n) = false
is_function (ctypes.pointer t c) = false
is_function (ctypes.function f) = true

abbrev pub is_bool : IntegerType → Bool
is_bool types.Bool = true
is_bool types.Char = false
is_bool types.SignedChar = false
is_bool types.UnsignedChar = false
is_bool types.Short = false
is_bool types.UnsignedShort = false
is_bool types.Int = false
is_bool types.UnsignedInt = false
is_bool types.Long = false
is_bool types.UnsignedLong = false
is_bool types.LongLong = false
is_bool types.UnsignedLongLong = false

-- rule 3: the bytes of the complete type to which a pointer points that is dereferenced, added to or stepped (C11 6.5.2.1p1, 6.5.6p2)
abbrev pub pointee_size : List Completed → CType → Result ℕ ℕ
pointee_size done t = type_size done t

-- so many bytes forth or back
abbrev pub forth : ℕ → ℤ
forth n = pos n

abbrev pub back : ℕ → ℤ
back zero = pos 0
back (suc n) = negsuc n

-- what a pointer to this type moves by for each of a number
abbrev pub stepped : List Completed → CType → (ℕ → ℤ) → Result ℤ ℕ
stepped done t way = pointee_size done t >>= λ size. Ok (way size)

-- ---- places

-- the line of a place's own token
abbrev pub place_line : Place → ℕ
place_line (variable_at line v offset) = line
place_line (object_at line k offset) = line
place_line (literal_at line k) = line
place_line (pointed line e) = line
place_line (arrow line e offset) = line
place_line (member line p offset) = line
place_line (element line p e size whole swapped) = line
place_line (subscript line a e size swapped) = line

-- a part of a place, from an offset on: within a variable or a static object the offsets add up
abbrev pub part_of : (line : ℕ) → Place → (offset : ℕ) → Place
part_of line (variable_at at v from) offset = variable_at line v (from + offset)
part_of line (object_at at k from) offset = object_at line k (from + offset)
part_of line (literal_at at k) offset = member line (literal_at at k) offset
part_of line (pointed at e) offset = member line (pointed at e) offset
part_of line (arrow at e from) offset = member line (arrow at e from) offset
part_of line (member at p from) offset = member line (member at p from) offset
part_of line (element at p e size whole swapped) offset = member line (element at p e size whole swapped) offset
part_of line (subscript at a e size swapped) offset = member line (subscript at a e size swapped) offset

-- the variable within which a place lies, of which `&` and decay take the address
abbrev pub variable_of : Place → Option ℕ
variable_of (variable_at line v offset) = Some v
variable_of (object_at line k offset) = None
variable_of (literal_at line k) = None
variable_of (pointed line e) = None
variable_of (arrow line e offset) = None
variable_of (member line p offset) = variable_of p
variable_of (element line p e size whole swapped) = variable_of p
variable_of (subscript line a e size swapped) = None

-- ---- the value of an operand (C11 6.3.2.1p2 to p4)

-- the address of a place of this type
abbrev pub address_of : (line : ℕ) → CType → Bool → Place → Operand
address_of line t constant p = plain (ctypes.pointer t constant) (cores.address line p)

-- A number is read; an array is the address of its first element, which is const where the array is. No place is of another type.
abbrev pub used_place : List Completed → CType → Bool → Place → OperandNode
used_place done ctypes.void constant p = Err 7
used_place done (ctypes.integer t) constant p = Ok (plain (ctypes.integer t) (cores.read t p))
used_place done (ctypes.aggregate q) constant p = Ok (structure (ctypes.aggregate q) (cores.copy p (size_of done (ctypes.aggregate q))))
used_place done (ctypes.array e n) constant p = Ok (address_of (place_line p) e constant p)
used_place done (ctypes.pointer t c) constant p = Ok (plain (ctypes.pointer t c) (cores.read types.UnsignedLong p))
used_place done (ctypes.function f) constant p = Err 7

-- what stands for the address of an array that has none, where it isn't evaluated
abbrev pub no_address : Structure → Expression
no_address a = cores.comma 0 (cores.discard_structure a) (cores.constant 0 types.UnsignedLong 0)

-- rule 9: an array in a value that is no place has no address, but within `sizeof`
abbrev pub used_structure : Bool → CType → Structure → OperandNode
used_structure within ctypes.void a = Ok (structure ctypes.void a)
used_structure within (ctypes.integer t) a = Ok (structure (ctypes.integer t) a)
used_structure within (ctypes.aggregate p) a = Ok (structure (ctypes.aggregate p) a)
used_structure within (ctypes.array e n) a = if within then Ok (plain (ctypes.pointer e false) (no_address a)) else Err 9
used_structure within (ctypes.pointer t c) a = Ok (structure (ctypes.pointer t c) a)
used_structure within (ctypes.function f) a = Ok (structure (ctypes.function f) a)

-- an operand where its value is wanted, within `sizeof` or not: it is a value of a scalar type or of none, or one of a struct or union
abbrev pub used : List Completed → Bool → Operand → OperandNode
used done within (value t null e) = Ok (value t null e)
used done within (place t constant p) = used_place done t constant p
used done within (structure t a) = used_structure within t a
used done within (designator f e) = Ok (plain (ctypes.pointer (ctypes.function f) false) e)

-- an operand that may be a place: only an array in a value that is no place is used first
abbrev pub settled : Bool → Operand → OperandNode
settled within (value t null e) = Ok (value t null e)
settled within (place t constant p) = Ok (place t constant p)
settled within (structure t a) = used_structure within t a
settled within (designator f e) = Ok (designator f e)

-- the expression of a used operand whose value isn't wanted
abbrev pub dropped : Operand → Result Expression ℕ
dropped (value t null e) = Ok e
dropped (place t constant p) = Err 7
dropped (structure t a) = Ok (cores.discard_structure a)
dropped (designator f e) = Ok e

-- ---- null pointer constants and conversions as by assignment (C11 6.3.2.3p3, 6.5.16.1)

abbrev pub is_zero : Option TypedNumber → Bool
is_zero None = false
is_zero (Some n) = n.bits == 0

-- an integer constant expression of value 0
abbrev pub is_zero_constant : CType → Expression → Bool
is_zero_constant ctypes.void e = false
is_zero_constant (ctypes.integer t) e = is_zero (constant_of e)
is_zero_constant (ctypes.aggregate p) e = false
is_zero_constant (ctypes.array inner n) e = false
is_zero_constant (ctypes.pointer t c) e = false
is_zero_constant (ctypes.function f) e = false

-- or that cast to `void *`
abbrev pub is_null : Operand → Bool
is_null (value t null e) = null || is_zero_constant t e
is_null (place t constant p) = false
is_null (structure t a) = false
is_null (designator f e) = false

-- a pointer to objects beside one to void
abbrev pub with_void : CType → CType → Bool
with_void t u = (is_void t && not (is_function u)) || (is_void u && not (is_function t))

-- a pointer to one may take one to the other: they are one type, or one is to void and the other to objects, and const isn't lost
abbrev pub may_point : CType → Bool → CType → Bool → Bool
may_point t constant u other = (same_ctype t u || with_void t u) && (constant || not other)

-- the number that an operand gives an object of integer type: one of arithmetic type, or to _Bool any scalar
abbrev pub integer_from : IntegerType → Operand → Option Expression
integer_from t (value ctypes.void null e) = None
integer_from t (value (ctypes.integer u) null e) = Some (as_type t e)
integer_from t (value (ctypes.aggregate p) null e) = None
integer_from t (value (ctypes.array inner n) null e) = None
integer_from t (value (ctypes.pointer u c) null e) = if is_bool t then Some (as_type t e) else None
integer_from t (value (ctypes.function f) null e) = None
integer_from t (place u constant p) = None
integer_from t (structure u a) = None
integer_from t (designator f e) = None

-- and a pointer: a null pointer constant, or a pointer that it may take
abbrev pub pointer_from : CType → Bool → Operand → Option Expression
pointer_from t c (value ctypes.void null e) = None
pointer_from t c (value (ctypes.integer u) null e) = if is_zero_constant (ctypes.integer u) e then Some (as_type types.UnsignedLong e) else None
pointer_from t c (value (ctypes.aggregate p) null e) = None
pointer_from t c (value (ctypes.array inner n) null e) = None
pointer_from t c (value (ctypes.pointer u d) null e) = if null || may_point t c u d then Some e else None
pointer_from t c (value (ctypes.function f) null e) = None
pointer_from t c (place u constant p) = None
pointer_from t c (structure u a) = None
pointer_from t c (designator f e) = None

-- rule 8: what an operand gives an object of a scalar type
abbrev pub assigned : CType → Operand → Result Expression ℕ
assigned ctypes.void x = Err 8
assigned (ctypes.integer t) x = required 8 (integer_from t x)
assigned (ctypes.aggregate p) x = Err 8
assigned (ctypes.array inner n) x = Err 8
assigned (ctypes.pointer t c) x = required 8 (pointer_from t c x)
assigned (ctypes.function f) x = Err 8

-- one struct or union type
abbrev pub same_record : ℕ → CType → Bool
same_record p ctypes.void = false
same_record p (ctypes.integer t) = false
same_record p (ctypes.aggregate q) = p == q
same_record p (ctypes.array inner n) = false
same_record p (ctypes.pointer t c) = false
same_record p (ctypes.function f) = false

-- and a struct or union
abbrev pub record_from : ℕ → Operand → Option Structure
record_from p (value t null e) = None
record_from p (place t constant q) = None
record_from p (structure t a) = if same_record p t then Some a else None
record_from p (designator f e) = None

-- ---- operands of operators: the value of an operand of integer type, of a scalar type, or of a pointer

abbrev pub integral : ℕ → Operand → Result (IntegerType × Expression) ℕ
integral rule (value t null e) = required rule (integer_of t) >>= λ u. Ok (u, e)
integral rule (place t constant p) = Err rule
integral rule (structure t a) = Err rule
integral rule (designator f e) = Err rule

abbrev pub scalar : ℕ → Operand → Result Expression ℕ
scalar rule (value t null e) = required rule (scalar_of t) >>= λ u. Ok e
scalar rule (place t constant p) = Err rule
scalar rule (structure t a) = Err rule
scalar rule (designator f e) = Err rule

-- what a value is to `+`, `-`, comparisons and `?:`
pub data Kind : Type 0 where
  number : (type : IntegerType) → Kind
  address : (to : CType) (constant : Bool) → Kind
  neither : Kind

abbrev pub kind_of : CType → Kind
kind_of ctypes.void = neither
kind_of (ctypes.integer t) = number t
kind_of (ctypes.aggregate p) = neither
kind_of (ctypes.array inner n) = neither
kind_of (ctypes.pointer t c) = address t c
kind_of (ctypes.function f) = neither

-- the kind of a used operand, and its expression where it is a value
abbrev pub type_in : Operand → CType
type_in (value t null e) = t
type_in (place t constant p) = t
type_in (structure t a) = t
type_in (designator f e) = ctypes.function f

abbrev pub valued : Operand → Result Expression ℕ
valued (value t null e) = Ok e
valued (place t constant p) = Err 7
valued (structure t a) = Err 7
valued (designator f e) = Err 7

-- ---- names

-- a function's address where it isn't called: the profile refuses such a file
abbrev pub function_address : ℕ → Expression
function_address line = cores.comma line (cores.function_name line) (cores.constant line types.UnsignedLong 0)

abbrev pub variable_node : ℕ → ℕ → Option Named → OperandNode
variable_node line v None = Err 1
variable_node line v (Some n) = Ok (place n.type n.constant (variable_at line v 0))

-- rule 3: an object whose type is incomplete here is no operand
abbrev pub object_node : List Completed → ℕ → ℕ → Option ObjectEntry → OperandNode
object_node done line k None = Err 1
object_node done line k (Some o) = if is_incomplete done o then Err 3 else Ok (place o.named.type o.named.constant (object_at line k 0))

-- a function of this type
abbrev pub function_node : Scoped → ℕ → FunctionType → OperandNode
function_node s line f = Ok (designator (type_place s.functions.types f) (function_address line))

-- A string is an array of char, with the zero behind it (C11 6.4.5p6): an object of the file, or within `sizeof` none.
abbrev pub string_place : Bool → (line literal : ℕ) → Place
string_place false line k = literal_at line k
string_place true line k = pointed line (cores.constant line types.UnsignedLong 0)

abbrev pub string_node : Bool → (line literal length : ℕ) → Operand
string_node within line k n = place (ctypes.array (ctypes.integer types.Char) (suc n)) false (string_place within line k)

-- ---- `&` and `*` (C11 6.5.3.2)

-- rule 9: `&` is of a place or a function
abbrev pub address_node : ℕ → Operand → OperandNode
address_node line (value t null e) = Err 9
address_node line (place t constant p) = Ok (address_of line t constant p)
address_node line (structure t a) = Err 9
address_node line (designator f e) = Ok (plain (ctypes.pointer (ctypes.function f) false) e)

-- rule 3: what a pointer points to is a complete object or a function
abbrev pub pointed_node : List Completed → ℕ → CType → Bool → Expression → OperandNode
pointed_node done line ctypes.void constant e = Err 3
pointed_node done line (ctypes.integer t) constant e = Ok (place (ctypes.integer t) constant (pointed line e))
pointed_node done line (ctypes.aggregate p) constant e = pointee_size done (ctypes.aggregate p) >>= λ n. Ok (place (ctypes.aggregate p) constant (pointed line e))
pointed_node done line (ctypes.array inner n) constant e = pointee_size done (ctypes.array inner n) >>= λ size. Ok (place (ctypes.array inner n) constant (pointed line e))
pointed_node done line (ctypes.pointer t c) constant e = Ok (place (ctypes.pointer t c) constant (pointed line e))
pointed_node done line (ctypes.function f) constant e = Ok (designator f e)

abbrev pub dereference_by : List Completed → ℕ → Kind → Expression → OperandNode
dereference_by done line (number t) e = Err 7
dereference_by done line (address t c) e = pointed_node done line t c e
dereference_by done line neither e = Err 7

-- of a used operand
abbrev pub dereference_node : List Completed → ℕ → Operand → OperandNode
dereference_node done line x = valued x >>= λ e. dereference_by done line (kind_of (type_in x)) e

-- ---- subscripts (C11 6.5.2.1)

-- an element of an array in a named object of so many bytes, or of one that a pointer tells
abbrev pub element_at : Option ℕ → (line : ℕ) → Place → Expression → (size : ℕ) → Bool → Place
element_at (Some whole) line p index size swapped = element line p index size whole swapped
element_at None line p index size swapped = subscript line (cores.address (place_line p) p) index size swapped

-- of an array of these elements
abbrev pub element_node : Scoped → ℕ → CType → Bool → Place → Expression → Bool → Operand
element_node s line t constant p index swapped = place t constant (element_at (object_size (all_sizes s) p) line p index (size_of s.records.done t) swapped)

-- rule 3: a pointer to a complete object
abbrev pub subscript_by : List Completed → ℕ → Kind → Expression → Expression → Bool → OperandNode
subscript_by done line (number t) a index swapped = Err 7
subscript_by done line (address t c) a index swapped = pointee_size done t >>= λ size. Ok (place t c (subscript line a index size swapped))
subscript_by done line neither a index swapped = Err 7

abbrev pub subscript_place : Scoped → ℕ → CType → Bool → Place → Expression → Bool → OperandNode
subscript_place s line (ctypes.array t n) constant p index swapped = Ok (element_node s line t constant p index swapped)
subscript_place s line t constant p index swapped = do
  x ← used_place s.records.done t constant p
  a ← valued x
  subscript_by s.records.done line (kind_of (type_in x)) a index swapped

-- an operand that isn't used so far, by an index
abbrev pub subscript_base : Scoped → Bool → ℕ → Operand → Expression → Bool → OperandNode
subscript_base s within line (value t null e) index swapped = subscript_by s.records.done line (kind_of t) e index swapped
subscript_base s within line (place t constant p) index swapped = subscript_place s line t constant p index swapped
subscript_base s within line (structure t a) index swapped = do
  x ← used_structure within t a
  e ← valued x
  subscript_by s.records.done line (kind_of (type_in x)) e index swapped
subscript_base s within line (designator f e) index swapped = subscript_by s.records.done line (address (ctypes.function f) false) e index swapped

-- the number of an operand that is used as an integer, or the operand as it is
abbrev pub index_of : List Completed → Operand → Result Expression Operand
index_of done x = by (used done false x >>= integral 7) where
  by : Result (IntegerType × Expression) ℕ → Result Expression Operand
  by (Ok i) = Ok i.1
  by (Err rule) = Err x

abbrev pub view_index : Result (Box CoreExpr Global) TypedOperand → Result Expression Operand
view_index (Ok e) = Ok (view e.value)
view_index (Err x) = Err (view_typed x)

-- one of both is an integer; where the left one is, it is evaluated first all the same
abbrev pub subscript_turned : Scoped → Bool → ℕ → Operand → Result Expression Operand → OperandNode
subscript_turned s within line y (Err x) = Err 7
subscript_turned s within line y (Ok index) = subscript_base s within line y index true

abbrev pub subscript_in : Scoped → Bool → ℕ → Operand → Result Expression Operand → OperandNode
subscript_in s within line x (Ok index) = subscript_base s within line x index false
subscript_in s within line x (Err y) = subscript_turned s within line y (index_of s.records.done x)

-- of two operands that aren't used so far
abbrev pub subscript_node : Scoped → Bool → ℕ → Operand → Operand → OperandNode
subscript_node s within line x y = subscript_in s within line x (index_of s.records.done y)

-- ---- members (C11 6.5.2.3)

-- the part of this type at an offset of a value that is no place
abbrev pub part_operand : List Completed → (line offset : ℕ) → CType → Structure → Operand
part_operand done line offset ctypes.void a = structure ctypes.void (cores.section line offset 0 a)
part_operand done line offset (ctypes.integer t) a = plain (ctypes.integer t) (cores.part line t offset a)
part_operand done line offset (ctypes.aggregate p) a = structure (ctypes.aggregate p) (cores.section line offset (size_of done (ctypes.aggregate p)) a)
part_operand done line offset (ctypes.array inner n) a = structure (ctypes.array inner n) (cores.section line offset (size_of done (ctypes.array inner n)) a)
part_operand done line offset (ctypes.pointer t c) a = plain (ctypes.pointer t c) (cores.part line types.UnsignedLong offset a)
part_operand done line offset (ctypes.function f) a = structure (ctypes.function f) (cores.section line offset 0 a)

-- a member by its name: its offset and type, and whether it is const
abbrev pub member_named : Scoped → CType → List ℕ → Result ((ℕ × CType) × Bool) ℕ
member_named s t name = do
  way ← required 11 (found (members_in s.members t).named name)
  part ← required 11 (part_at s.records.done 0 t way.0)
  Ok (part, way.1)

-- Rule 11: a complete struct or union has a member of that name; one of a place is const where it or the whole is.
abbrev pub member_node : Scoped → ℕ → Operand → List ℕ → OperandNode
member_node s line (value t null e) name = Err 11
member_node s line (place t constant p) name = member_named s t name >>= λ m. Ok (place m.0.1 (constant || m.1) (part_of line p m.0.0))
member_node s line (structure t a) name = member_named s t name >>= λ m. Ok (part_operand s.records.done line m.0.0 m.0.1 a)
member_node s line (designator f e) name = Err 11

abbrev pub arrow_by : Scoped → ℕ → Kind → Expression → List ℕ → OperandNode
arrow_by s line (number t) e name = Err 11
arrow_by s line (address t c) e name = member_named s t name >>= λ m. Ok (place m.0.1 (c || m.1) (arrow line e m.0.0))
arrow_by s line neither e name = Err 11

-- of a used operand: a pointer to one
abbrev pub arrow_node : Scoped → ℕ → Operand → List ℕ → OperandNode
arrow_node s line (value t null e) name = arrow_by s line (kind_of t) e name
arrow_node s line (place t constant p) name = Err 11
arrow_node s line (structure t a) name = Err 11
arrow_node s line (designator f e) name = Err 11

-- ---- casts (C11 6.5.4)

abbrev pub cast_void : ℕ → Operand → OperandNode
cast_void line (value ctypes.void null e) = Ok (plain ctypes.void e)
cast_void line (value t null e) = Ok (plain ctypes.void (cores.discard line e))
cast_void line x = dropped x >>= λ e. Ok (plain ctypes.void e)

-- to a pointer type: a number is converted to 64 bits, and another pointer stays as it is
abbrev pub cast_pointer : CType → Bool → Kind → Expression → OperandNode
cast_pointer t null (number u) e = Ok (value t null (cores.convert types.UnsignedLong e))
cast_pointer t null (address u d) e = Ok (plain t e)
cast_pointer t null neither e = Err 7

-- Of a used operand; a cast is no place. An integer constant expression of value 0 that is cast to `void *` is a null pointer constant.
abbrev pub cast_node : ℕ → CType → Operand → OperandNode
cast_node line ctypes.void x = cast_void line x
cast_node line (ctypes.integer t) x = scalar 7 x >>= λ e. Ok (plain (ctypes.integer t) (cores.convert t e))
cast_node line (ctypes.aggregate p) x = Err 7
cast_node line (ctypes.array inner n) x = Err 7
cast_node line (ctypes.pointer t c) x = valued x >>= λ e. cast_pointer (ctypes.pointer t c) (is_void t && not c && is_null x) (kind_of (type_in x)) e
cast_node line (ctypes.function f) x = Err 7

-- ---- sizeof (C11 6.5.3.4)

-- rule 3: the operand has a complete object type
abbrev pub operand_bytes : List Completed → Operand → Result ℕ ℕ
operand_bytes done x = type_size done (type_in x)

-- a place that isn't evaluated
abbrev pub sized_place : List Completed → (line n : ℕ) → CType → Option IntegerType → Place → Operand
sized_place done line n t (Some u) p = plain (ctypes.integer types.UnsignedLong) (cores.size_of_value line (n % 2 ^ 64) (cores.read u p))
sized_place done line n t None p = plain (ctypes.integer types.UnsignedLong) (cores.size_of_structure line (n % 2 ^ 64) (cores.copy p (size_of done t)))

abbrev pub sized_operand : List Completed → (line n : ℕ) → Operand → Operand
sized_operand done line n (value t null e) = plain (ctypes.integer types.UnsignedLong) (cores.size_of_value line (n % 2 ^ 64) e)
sized_operand done line n (place t constant p) = sized_place done line n t (scalar_of t) p
sized_operand done line n (structure t a) = plain (ctypes.integer types.UnsignedLong) (cores.size_of_structure line (n % 2 ^ 64) a)
sized_operand done line n (designator f e) = plain (ctypes.integer types.UnsignedLong) (cores.size_of_value line (n % 2 ^ 64) e)

-- ---- unary operators (C11 6.5.3.3)

abbrev pub sign_node : ℕ → SignOperator → Operand → OperandNode
sign_node line op x = integral 7 x >>= λ i. Ok (plain (ctypes.integer (promoted i.0)) (cores.sign line op (as_type (promoted i.0) i.1)))

abbrev pub not_node : ℕ → Operand → OperandNode
not_node line x = scalar 7 x >>= λ e. Ok (plain int_type (cores.is_zero line e))

-- ---- places that are changed

-- rule 9: it isn't const
abbrev pub target : Bool → Place → Result Place ℕ
target constant p = if constant then Err 9 else Ok p

abbrev pub step_size : StepOperator → ℕ → ℤ
step_size steps.Increment n = forth n
step_size steps.Decrement n = back n

-- `++` and `--` (C11 6.5.2.4, 6.5.3.1) of a place of this type; rule 3: a pointer points to complete objects; rule 9: an array isn't changed
abbrev pub step_place : List Completed → (line : ℕ) → StepOperator → Bool → CType → Bool → Place → OperandNode
step_place done line op before ctypes.void constant p = Err 7
step_place done line op before (ctypes.integer t) constant p = target constant p >>= λ q. Ok (plain (ctypes.integer t) (cores.step line t q op before))
step_place done line op before (ctypes.aggregate r) constant p = Err 7
step_place done line op before (ctypes.array inner n) constant p = Err 9
step_place done line op before (ctypes.pointer t c) constant p = do
  step ← stepped done t (step_size op)
  q ← target constant p
  Ok (plain (ctypes.pointer t c) (cores.pointer_step line q step before))
step_place done line op before (ctypes.function f) constant p = Err 7

-- a value that would be changed, were it a place
abbrev pub step_value : List Completed → Kind → OperandNode
step_value done (number t) = Err 9
step_value done (address t c) = pointee_size done t >>= λ size. Err 9
step_value done neither = Err 7

-- of an operand that isn't used so far
abbrev pub step_node : List Completed → (line : ℕ) → StepOperator → Bool → Operand → OperandNode
step_node done line op before (value t null e) = step_value done (kind_of t)
step_node done line op before (place t constant p) = step_place done line op before t constant p
step_node done line op before (structure t a) = Err 7
step_node done line op before (designator f e) = Err 7

-- ---- `+` and `-` (C11 6.5.6)

-- the type of an operator's result whose operands are both integers
abbrev pub arithmetic_type : BinaryOp → IntegerType → IntegerType → IntegerType
arithmetic_type binaries.ShiftLeft t u = promoted t
arithmetic_type binaries.ShiftRight t u = promoted t
arithmetic_type binaries.LogicalOr t u = types.Int
arithmetic_type binaries.LogicalAnd t u = types.Int
arithmetic_type binaries.Equal t u = types.Int
arithmetic_type binaries.NotEqual t u = types.Int
arithmetic_type binaries.Less t u = types.Int
arithmetic_type binaries.Greater t u = types.Int
arithmetic_type binaries.LessEqual t u = types.Int
arithmetic_type binaries.GreaterEqual t u = types.Int
arithmetic_type op t u = common_type t u

abbrev pub arithmetic_node : ℕ → BinaryOp → IntegerType → IntegerType → Expression → Expression → OperandNode
arithmetic_node line op t u a b = binary_node line op a b >>= λ e. Ok (plain (ctypes.integer (arithmetic_type op t u)) e)

abbrev pub sum_node : List Completed → ℕ → CType → Bool → Expression → Expression → (ℕ → ℤ) → Bool → OperandNode
sum_node done line t c a index way swapped = stepped done t way >>= λ step. Ok (plain (ctypes.pointer t c) (cores.sum line a index step swapped))

abbrev pub add_node : List Completed → ℕ → Kind → Kind → Expression → Expression → OperandNode
add_node done line (number t) (number u) a b = arithmetic_node line binaries.Add t u a b
add_node done line (address t c) (number u) a b = sum_node done line t c a b forth false
add_node done line (number t) (address u c) a b = sum_node done line u c b a forth true
add_node done line (address t c) (address u d) a b = Err 7
add_node done line neither l a b = Err 7
add_node done line (number t) neither a b = Err 7
add_node done line (address t c) neither a b = Err 7

-- two pointers to one type, up to qualifiers, which is that of complete objects
abbrev pub distance_node : List Completed → ℕ → CType → CType → Expression → Expression → OperandNode
distance_node done line t u a b =
    if same_ctype t u then (pointee_size done t >>= λ size. Ok (plain (ctypes.integer types.Long) (cores.distance line a b size))) else Err 7

abbrev pub subtract_node : List Completed → ℕ → Kind → Kind → Expression → Expression → OperandNode
subtract_node done line (number t) (number u) a b = arithmetic_node line binaries.Subtract t u a b
subtract_node done line (address t c) (number u) a b = sum_node done line t c a b back false
subtract_node done line (address t c) (address u d) a b = distance_node done line t u a b
subtract_node done line (number t) (address u c) a b = Err 7
subtract_node done line neither l a b = Err 7
subtract_node done line (number t) neither a b = Err 7
subtract_node done line (address t c) neither a b = Err 7

-- ---- comparisons (C11 6.5.8, 6.5.9)

-- two pointers to objects of one type, up to qualifiers
abbrev pub relation_node : ℕ → BinaryOp → Comparison → Kind → Kind → Expression → Expression → OperandNode
relation_node line op c (number t) (number u) a b = arithmetic_node line op t u a b
relation_node line op c (address t k) (address u l) a b = if same_ctype t u && not (is_function t) then Ok (plain int_type (cores.relation line c a b)) else Err 7
relation_node line op c (number t) (address u l) a b = Err 7
relation_node line op c (address t k) (number u) a b = Err 7
relation_node line op c neither l a b = Err 7
relation_node line op c (number t) neither a b = Err 7
relation_node line op c (address t k) neither a b = Err 7

-- 64 bits are compared
abbrev pub equal_pointers : ℕ → Comparison → Expression → Expression → Operand
equal_pointers line c a b = plain int_type (cores.compare line c (as_type types.UnsignedLong a) (as_type types.UnsignedLong b))

-- two pointers to one type, up to qualifiers, or one of them to void, or one beside a null pointer constant
abbrev pub equality_node : ℕ → BinaryOp → Comparison → (l r : Kind) → (left_null right_null : Bool) → Expression → Expression → OperandNode
equality_node line op c (number t) (number u) m n a b = arithmetic_node line op t u a b
equality_node line op c (address t k) (address u l) m n a b = if same_ctype t u || with_void t u || m || n then Ok (equal_pointers line c a b) else Err 7
equality_node line op c (address t k) (number u) m n a b = if n then Ok (equal_pointers line c a b) else Err 7
equality_node line op c (number t) (address u l) m n a b = if m then Ok (equal_pointers line c a b) else Err 7
equality_node line op c neither r m n a b = Err 7
equality_node line op c (number t) neither m n a b = Err 7
equality_node line op c (address t k) neither m n a b = Err 7

-- ---- binary operators (C11 6.5.5 to 6.5.14) of used operands

abbrev pub logical_node : ℕ → LogicalOperator → Operand → Operand → OperandNode
logical_node line op x y = do
  a ← scalar 7 x
  b ← scalar 7 y
  Ok (plain int_type (cores.logical line op a b))

-- both of integer types
abbrev pub integers_node : ℕ → BinaryOp → Operand → Operand → OperandNode
integers_node line op x y = do
  a ← integral 7 x
  b ← integral 7 y
  arithmetic_node line op a.0 b.0 a.1 b.1

abbrev pub with_kinds : (Kind → Kind → Expression → Expression → OperandNode) → Operand → Operand → OperandNode
with_kinds node x y = do
  a ← valued x
  b ← valued y
  node (kind_of (type_in x)) (kind_of (type_in y)) a b

abbrev pub compared_by : ℕ → BinaryOp → Comparison → Operand → Operand → OperandNode
compared_by line op c x y = with_kinds (λ l r a b. equality_node line op c l r (is_null x) (is_null y) a b) x y

abbrev pub related_by : ℕ → BinaryOp → Comparison → Operand → Operand → OperandNode
related_by line op c x y = with_kinds (relation_node line op c) x y

abbrev pub binary_operand : List Completed → ℕ → BinaryOp → Operand → Operand → OperandNode
binary_operand done line binaries.LogicalOr x y = logical_node line logicals.Or x y
binary_operand done line binaries.LogicalAnd x y = logical_node line logicals.And x y
binary_operand done line binaries.Or x y = integers_node line binaries.Or x y
binary_operand done line binaries.Xor x y = integers_node line binaries.Xor x y
binary_operand done line binaries.And x y = integers_node line binaries.And x y
binary_operand done line binaries.Equal x y = compared_by line binaries.Equal comparisons.Equal x y
binary_operand done line binaries.NotEqual x y = compared_by line binaries.NotEqual comparisons.NotEqual x y
binary_operand done line binaries.Less x y = related_by line binaries.Less comparisons.Less x y
binary_operand done line binaries.Greater x y = related_by line binaries.Greater comparisons.Greater x y
binary_operand done line binaries.LessEqual x y = related_by line binaries.LessEqual comparisons.LessEqual x y
binary_operand done line binaries.GreaterEqual x y = related_by line binaries.GreaterEqual comparisons.GreaterEqual x y
binary_operand done line binaries.ShiftLeft x y = integers_node line binaries.ShiftLeft x y
binary_operand done line binaries.ShiftRight x y = integers_node line binaries.ShiftRight x y
binary_operand done line binaries.Add x y = with_kinds (add_node done line) x y
binary_operand done line binaries.Subtract x y = with_kinds (subtract_node done line) x y
binary_operand done line binaries.Multiply x y = integers_node line binaries.Multiply x y
binary_operand done line binaries.Divide x y = integers_node line binaries.Divide x y
binary_operand done line binaries.Remainder x y = integers_node line binaries.Remainder x y

-- ---- `?:` (C11 6.5.15)

-- the type of two pointers that are no null pointer constants: of one type, or of one to void, const where one is
abbrev pub common_pointee : CType → CType → Option CType
common_pointee t u = if same_ctype t u then Some t else (if with_void t u then Some ctypes.void else None)

abbrev pub chosen_pointer : CType → Bool → CType → Bool → (left_null right_null : Bool) → Option (CType × Bool)
chosen_pointer t c u d true false = Some (u, d)
chosen_pointer t c u d false true = Some (t, c)
chosen_pointer t c u d true true = by (common_pointee t u) where
  by : Option CType → Option (CType × Bool)
  by None = None
  by (Some v) = Some (v, c || d)
chosen_pointer t c u d false false = by (common_pointee t u) where
  by : Option CType → Option (CType × Bool)
  by None = None
  by (Some v) = Some (v, c || d)

abbrev pub chosen_node : ℕ → Expression → Option (CType × Bool) → Expression → Expression → OperandNode
chosen_node line test None a b = Err 7
chosen_node line test (Some p) a b = Ok (plain (ctypes.pointer p.0 p.1) (cores.choice line test (as_type types.UnsignedLong a) (as_type types.UnsignedLong b)))

-- two numbers, or two pointers, or a pointer and a null pointer constant, which has the pointer's type, or neither has a value
abbrev pub chosen : ℕ → Expression → (l r : CType) → (left_null right_null : Bool) → Expression → Expression → OperandNode
chosen line test (ctypes.integer t) (ctypes.integer u) m n a b =
    Ok (plain (ctypes.integer (common_type t u)) (cores.choice line test (as_type (common_type t u) a) (as_type (common_type t u) b)))
chosen line test ctypes.void ctypes.void m n a b = Ok (plain ctypes.void (cores.choice line test a b))
chosen line test (ctypes.pointer t c) (ctypes.pointer u d) m n a b = chosen_node line test (chosen_pointer t c u d m n) a b
chosen line test (ctypes.pointer t c) (ctypes.integer u) m n a b = chosen_node line test (if n then Some (t, c) else None) a b
chosen line test (ctypes.integer t) (ctypes.pointer u d) m n a b = chosen_node line test (if m then Some (u, d) else None) a b
chosen line test l r m n a b = Err 7

-- two values of one struct or union type
abbrev pub chosen_record : ℕ → Expression → CType → CType → Structure → Structure → OperandNode
chosen_record line test (ctypes.aggregate p) u a b = if same_record p u then Ok (structure (ctypes.aggregate p) (cores.choose line test a b)) else Err 7
chosen_record line test t u a b = Err 7

abbrev pub choice_by : ℕ → Expression → Operand → Operand → OperandNode
choice_by line test (value t m a) (value u n b) = chosen line test t u (is_null (value t m a)) (is_null (value u n b)) a b
choice_by line test (structure t a) (structure u b) = chosen_record line test t u a b
choice_by line test x y = Err 7

-- of used operands
abbrev pub choice_operand : ℕ → Operand → Operand → Operand → OperandNode
choice_operand line test x y = scalar 7 test >>= λ e. choice_by line e x y

-- ---- assignments (C11 6.5.16)

-- a number that is assigned to a place of this type
abbrev pub put_number : ℕ → IntegerType → CType → Bool → Place → Expression → OperandNode
put_number line u t constant p e = target constant p >>= λ q. Ok (plain t (cores.assign line u q e))

-- Rule 8: the value is assignable; rule 9: the place isn't const, nor a member within it, and is no array.
abbrev pub assign_place : Scoped → ℕ → CType → Bool → Place → Operand → OperandNode
assign_place s line ctypes.void constant p y = Err 8
assign_place s line (ctypes.integer t) constant p y = assigned (ctypes.integer t) y >>= put_number line t (ctypes.integer t) constant p
assign_place s line (ctypes.aggregate r) constant p y = do
  a ← required 8 (record_from r y)
  q ← target (constant || (members_in s.members (ctypes.aggregate r)).constant) p
  Ok (structure (ctypes.aggregate r) (cores.put line q a))
assign_place s line (ctypes.array inner n) constant p y = Err 9
assign_place s line (ctypes.pointer t c) constant p y = assigned (ctypes.pointer t c) y >>= put_number line types.UnsignedLong (ctypes.pointer t c) constant p
assign_place s line (ctypes.function f) constant p y = Err 8

-- a value is no place
abbrev pub assign_record : CType → Operand → OperandNode
assign_record (ctypes.aggregate r) y = required 8 (record_from r y) >>= λ a. Err 9
assign_record t y = Err 9

-- the place that isn't used so far, and a used operand
abbrev pub assign_node : Scoped → ℕ → Operand → Operand → OperandNode
assign_node s line (value t null e) y = assigned t y >>= λ a. Err 9
assign_node s line (place t constant p) y = assign_place s line t constant p y
assign_node s line (structure t a) y = assign_record t y
assign_node s line (designator f e) y = Err 9

-- ---- compound assignments (C11 6.5.16.2)

-- forth or back
abbrev pub way_of : BinaryOp → Option StepOperator
way_of binaries.LogicalOr = None
way_of binaries.LogicalAnd = None
way_of binaries.Or = None
way_of binaries.Xor = None
way_of binaries.And = None
way_of binaries.Equal = None
way_of binaries.NotEqual = None
way_of binaries.Less = None
way_of binaries.Greater = None
way_of binaries.LessEqual = None
way_of binaries.GreaterEqual = None
way_of binaries.ShiftLeft = None
way_of binaries.ShiftRight = None
way_of binaries.Add = Some steps.Increment
way_of binaries.Subtract = Some steps.Decrement
way_of binaries.Multiply = None
way_of binaries.Divide = None
way_of binaries.Remainder = None

-- what a pointer to this type moves by for each of a number that is added to it or subtracted from it, and that number
abbrev pub moved_by : List Completed → BinaryOp → CType → Operand → Result (ℤ × Expression) ℕ
moved_by done op t y = do
  way ← required 7 (way_of op)
  i ← integral 7 y
  step ← stepped done t (step_size way)
  Ok (step, i.1)

-- a pointer plus or minus a number
abbrev pub update_pointer : List Completed → ℕ → BinaryOp → CType → Bool → Bool → Place → Operand → OperandNode
update_pointer done line op t c constant p y = do
  moved ← moved_by done op t y
  q ← target constant p
  Ok (plain (ctypes.pointer t c) (cores.pointer_update line q moved.0 moved.1))

abbrev pub update_number : ℕ → BinaryOp → IntegerType → Bool → Place → Operand → OperandNode
update_number line op t constant p y = do
  operator ← required 7 (operator_of op)
  i ← integral 7 y
  q ← target constant p
  Ok (plain (ctypes.integer t) (cores.update line t q operator (left_type operator t i.0) (as_type (right_type operator t i.0) i.1)))

-- the place that isn't used so far, and a used operand; rule 9: an array isn't changed
abbrev pub update_place : List Completed → ℕ → BinaryOp → CType → Bool → Place → Operand → OperandNode
update_place done line op ctypes.void constant p y = Err 7
update_place done line op (ctypes.integer t) constant p y = update_number line op t constant p y
update_place done line op (ctypes.aggregate r) constant p y = Err 7
update_place done line op (ctypes.array inner n) constant p y = Err 9
update_place done line op (ctypes.pointer t c) constant p y = update_pointer done line op t c constant p y
update_place done line op (ctypes.function f) constant p y = Err 7

-- a value that would be changed, were it a place
abbrev pub update_value : List Completed → BinaryOp → Kind → Operand → OperandNode
update_value done op (number t) y = do
  operator ← required 7 (operator_of op)
  i ← integral 7 y
  Err 9
update_value done op (address t c) y = moved_by done op t y >>= λ moved. Err 9
update_value done op neither y = Err 7

abbrev pub update_node : List Completed → ℕ → BinaryOp → Operand → Operand → OperandNode
update_node done line op (value t null e) y = update_value done op (kind_of t) y
update_node done line op (place t constant p) y = update_place done line op t constant p y
update_node done line op (structure t a) y = Err 7
update_node done line op (designator f e) y = Err 7

abbrev pub assignment_operand : Scoped → ℕ → Option BinaryOp → Operand → Operand → OperandNode
assignment_operand s line None x y = assign_node s line x y
assignment_operand s line (Some op) x y = update_node s.records.done line op x y

-- ---- comma (C11 6.5.17)

abbrev pub comma_by : ℕ → Expression → Operand → OperandNode
comma_by line a (value t null e) = Ok (plain t (cores.comma line a e))
comma_by line a (place t constant p) = Err 7
comma_by line a (structure t b) = Ok (structure t (cores.follow line a b))
comma_by line a (designator f e) = Err 7

-- of used operands
abbrev pub comma_operand : ℕ → Operand → Operand → OperandNode
comma_operand line x y = dropped x >>= λ a. comma_by line a y

-- ---- what is true of a typed operand

-- rule 17: a test is scalar, and a switch's value an integer
abbrev pub test_of : Operand → Result Expression ℕ
test_of x = scalar 17 x
