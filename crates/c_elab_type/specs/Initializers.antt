-- Initializers (C11 6.7.9).
use Rattle.std.specs.Prelude.{ℕ, suc, ◌+◌, ◌-◌, ◌++◌, is_some, not, ◌&&◌, ◌||◌, nat_le, Bool, true, false, List, [], ◌∷◌, length, reverse, Option, Some, None, Result, Ok, Err, if◌then◌else◌}
use Rattle.c_tree.specs.Tree.{Tree, constant, character, strings, name, parens, unary, cast, sizeof_expr, sizeof_type, step, member, binary, choice, assign, comma, call, address, dereference, arrow, subscript}
use Rattle.c_tree.specs.Declarations.{Initial, initial, braces, Initials, no_initial, initials}
use Rattle.c_types.specs.declared.integers.IntegerType.{IntegerType}
use Rattle.c_types.specs.declared.integers.IntegerType.TheVariants as types
use Rattle.c_types.specs.Types.{CType, void, integer, aggregate, array, pointer, function, Completed, Records}
use Rattle.c_types.specs.Layouts.{size_of}
use Rattle.core_tree.specs.declared.expression.CorePart.{CorePart}
use Rattle.c_types.specs.Integers.{bytes}
use Rattle.c_values.specs.Numbers.{TypedNumber}
use Rattle.c_values.specs.Variables.{low_bytes, put_at, zeros}
use Rattle.core_tree.specs.Trees.{Expression, view, Structure, view_structure, copy, choose, put, follow, section, list, string, give, Parts, no_part, number_part, structure_part, parts_of}
use Rattle.c_scope.specs.Scopes.{Scoped}
use Rattle.c_scope.specs.Faults.{◌>>=◌, required, Fault, fault, on_line}
use Rattle.c_operands.specs.Nodes.{as_type}
use Rattle.c_elab_expr.specs.Texts.{bytes_of}
use Rattle.c_scope.specs.Types.{lower}
use Rattle.c_operands.specs.Operands.{Operand, view_operand, number, record_value, constant_in}
use Rattle.c_operands.specs.Constants.{constant_of}
use Rattle.c_elab_expr.specs.Typing.{operand}
use Rattle.c_elab_type.specs.declared.items.Made.{Made as CodeMade}
use Rattle.c_elab_type.specs.declared.items.Made.TheVariants as made
use Rattle.c_elab_type.specs.declared.items.Value.{Value as CodeValue}
use Rattle.c_elab_type.specs.declared.items.Value.TheVariants as values
use Rattle.c_elab_base.specs.Slots.{slot, slot_type}

-- ---- what an initializer is, before the node around it is judged

pub data Made : Type 0 where
  single : (operand : Operand) → Made  -- an expression
  text : (line : ℕ) (bytes : List ℕ) → Made  -- a string
  listed : (value : Structure) → Made  -- braces around the items of a struct, a union or an array

-- what braces are for a scalar: the one item in them (C11 6.7.9p11)
abbrev pub only : List Made → Option Made
only [] = None
only (x ∷ []) = Some x
only (x ∷ y ∷ rest) = None

-- ---- values

-- of an integer type, or of struct, union or array type
pub data Value : Type 0 where
  number_value : (value : Expression) → Value
  structure_value : (value : Structure) → Value

abbrev pub is_character : CType → Bool
is_character void = false
is_character (integer types.Bool) = false
is_character (integer types.Char) = true
is_character (integer types.SignedChar) = true
is_character (integer types.UnsignedChar) = true
is_character (integer types.Short) = false
is_character (integer types.UnsignedShort) = false
is_character (integer types.Int) = false
is_character (integer types.UnsignedInt) = false
is_character (integer types.Long) = false
is_character (integer types.UnsignedLong) = false
is_character (integer types.LongLong) = false
is_character (integer types.UnsignedLongLong) = false
is_character (aggregate p) = false
is_character (array element n) = false
is_character (pointer t c) = false
is_character (function f) = false

-- rules 8 and 12: the value in the type of a scalar, which a string isn't (C11 6.7.9p11)
abbrev pub scalar_value : IntegerType → Made → Result Value ℕ
scalar_value t (single x) = do
  e ← number 8 x
  Ok (number_value (as_type t e))
scalar_value t (text line bytes) = Err 8
scalar_value t (listed a) = Err 12

-- rule 12: a struct or union has braces of its own, or an expression of its type (C11 6.7.9p13)
abbrev pub record_node : List Completed → CType → Made → Result Value ℕ
record_node done t (single x) = do
  a ← required 12 (record_value done t x)
  Ok (structure_value a)
record_node done t (text line bytes) = Err 12
record_node done t (listed a) = Ok (structure_value a)

-- rule 12: an array has braces of its own, or a string that fits, its end zero aside, in an array of characters (C11 6.7.9p14)
abbrev pub array_node : CType → ℕ → Made → Result Value ℕ
array_node element n (single x) = Err 12
array_node element n (text line bytes) = if is_character element && nat_le (length bytes) n then Ok (structure_value (string line n bytes)) else Err 12
array_node element n (listed a) = Ok (structure_value a)

-- the value of an object of this type, or the lowest rule
abbrev pub value_node : List Completed → CType → Made → Result Value ℕ
value_node done void x = Err 12
value_node done (integer t) x = scalar_value t x
value_node done (aggregate p) x = record_node done (aggregate p) x
value_node done (array element n) x = array_node element n x
value_node done (pointer t c) x = Err 8
value_node done (function f) x = Err 12

-- what is judged as a constant: an expression, since a string is one, and braces judge their own items
abbrev pub is_constant : Made → Bool
is_constant (single x) = is_some (constant_in x)
is_constant (text line bytes) = true
is_constant (listed a) = true

-- rule 13: the initializer of an object that lives as long as the program is of constants (C11 6.7.9p4)
abbrev pub initial_value : Bool → List Completed → CType → Made → Result Value ℕ
initial_value object_entry done t x = do
  v ← value_node done t x
  if not object_entry || is_constant x then Ok v else Err 13

-- ---- braces

abbrev pub part_with : ℕ → Value → Parts → Parts
part_with offset (number_value e) rest = number_part offset e rest
part_with offset (structure_value a) rest = structure_part offset a rest

-- an item in front of others: the lowest rule of all
abbrev pub joined : ℕ → Result Value ℕ → Result Parts ℕ → Result Parts ℕ
joined offset (Ok v) (Ok rest) = Ok (part_with offset v rest)
joined offset (Ok v) (Err rule) = Err rule
joined offset (Err rule) (Ok rest) = Err rule
joined offset (Err rule) (Err other) = Err (lower rule other)

-- rule 12: there are no more items than objects
abbrev pub item_node : Bool → List Completed → Option (CType × ℕ) → Made → Result Parts ℕ → Result Parts ℕ
item_node object_entry done None x rest = joined 0 (Err 12) rest
item_node object_entry done (Some object) x rest = joined object.1 (initial_value object_entry done object.0 x) rest

-- the items of an object of this type, which lives as long as the program or doesn't, from a number on
abbrev pub parts_from : Bool → Records → CType → ℕ → List Made → Result Parts ℕ
parts_from object_entry rs t i [] = Ok no_part
parts_from object_entry rs t i (x ∷ xs) = item_node object_entry rs.done (slot rs t i) x (parts_from object_entry rs t (suc i) xs)

-- braces on this line, with these items, of an object of this type
abbrev pub list_made : Bool → ℕ → Records → CType → List Made → Result Made Fault
list_made object_entry line rs t xs = do
  ps ← on_line line (parts_from object_entry rs t 0 xs)
  Ok (listed (list line (size_of rs.done t) ps))

-- rule 12: braces of a scalar have one item
abbrev pub braced : Bool → ℕ → Records → CType → List Made → Result Made Fault
braced object_entry line rs void xs = on_line line (required 12 (only xs))
braced object_entry line rs (integer t) xs = on_line line (required 12 (only xs))
braced object_entry line rs (aggregate p) xs = list_made object_entry line rs (aggregate p) xs
braced object_entry line rs (array element n) xs = list_made object_entry line rs (array element n) xs
braced object_entry line rs (pointer t c) xs = on_line line (required 12 (only xs))
braced object_entry line rs (function f) xs = on_line line (required 12 (only xs))

-- ---- initializers

-- a string, with its line
abbrev pub literal_of : Tree → Option (ℕ × List (List ℕ))
literal_of (constant line c) = None
literal_of (character line bits) = None
literal_of (strings line parts) = Some (line, parts)
literal_of (name line n) = None
literal_of (parens line e) = None
literal_of (unary line op e) = None
literal_of (address line e) = None
literal_of (dereference line e) = None
literal_of (cast line parts d e) = None
literal_of (sizeof_expr line e) = None
literal_of (sizeof_type line parts d) = None
literal_of (step line op e) = None
literal_of (member line e n) = None
literal_of (arrow line e n) = None
literal_of (subscript line a b) = None
literal_of (binary line op a b) = None
literal_of (choice line test a b) = None
literal_of (assign line op a b) = None
literal_of (comma line a b) = None
literal_of (call f arguments) = None

-- it stands for itself, and any other expression is an operand
abbrev pub single_as : Scoped → Tree → Option (ℕ × List (List ℕ)) → Result Made Fault
single_as s e None = do
  x ← operand s e
  Ok (single x)
single_as s e (Some literal) = Ok (text literal.0 (bytes_of literal.1))

abbrev pub typed_single : Scoped → Tree → Result Made Fault
typed_single s e = single_as s e (literal_of e)

-- Items are typed from left to right, and the braces around them are judged behind them.
abbrev mutual
  -- an initializer of an object of this type, which lives as long as the program or doesn't
  pub typed_initial : Bool → Scoped → CType → Initial → Result Made Fault
  typed_initial object_entry s t (initial e) = typed_single s e
  typed_initial object_entry s t (braces line items) = do
    xs ← typed_initials object_entry s t 0 items
    braced object_entry line s.records t xs

  -- the items of braces around an object of this type, from a number on
  pub typed_initials : Bool → Scoped → CType → ℕ → Initials → Result (List Made) Fault
  typed_initials object_entry s t i no_initial = Ok []
  typed_initials object_entry s t i (initials first rest) = do
    x ← typed_initial object_entry s (slot_type (slot s.records t i)) first
    xs ← typed_initials object_entry s t (suc i) rest
    Ok (x ∷ xs)

-- the value of a variable or object of this type, whose declarator begins on the line
abbrev pub initializer_of : Bool → ℕ → Scoped → CType → Option Initial → Result (Option Value) Fault
initializer_of object_entry line s t None = Ok None
initializer_of object_entry line s t (Some i) = do
  x ← typed_initial object_entry s t i
  v ← on_line line (initial_value object_entry s.records.done t x)
  Ok (Some v)

-- rule 12: a typedef has no initializer
abbrev pub no_initializer : ℕ → Scoped → Option Initial → Result (Unit {0}) Fault
no_initializer line s None = Ok tt
no_initializer line s (Some i) = do
  x ← typed_initial false s void i
  Err (fault line 12)

-- ---- the bytes that an initializer of constants says; beyond them an object's bytes are 0 (C11 6.7.9p21)

abbrev pub bytes_of_number : Option TypedNumber → List ℕ
bytes_of_number None = []
bytes_of_number (Some n) = low_bytes (bytes n.type) n.bits

-- bytes at an offset of others, behind which 0 fills up
abbrev pub put_far : ℕ → List ℕ → List ℕ → List ℕ
put_far at new old = put_at at new (old ++ zeros (at + length new - length old))

abbrev mutual
  pub structure_bytes : Structure → List ℕ
  structure_bytes (copy p size) = []
  structure_bytes (choose line test a b) = []
  structure_bytes (put line p a) = []
  structure_bytes (follow line e a) = []
  structure_bytes (section line offset size a) = []
  structure_bytes (list line size ps) = parts_bytes ps []
  structure_bytes (string line size known) = known
  structure_bytes (give line f used size args) = []

  -- of parts, over the bytes so far
  pub parts_bytes : Parts → List ℕ → List ℕ
  parts_bytes no_part known = known
  parts_bytes (number_part offset e rest) known = parts_bytes rest (put_far offset (bytes_of_number (constant_of e)) known)
  parts_bytes (structure_part offset a rest) known = parts_bytes rest (put_far offset (structure_bytes a) known)

abbrev pub initial_bytes : Value → List ℕ
initial_bytes (number_value e) = bytes_of_number (constant_of e)
initial_bytes (structure_value a) = structure_bytes a

-- ---- how many elements an initializer says (C11 6.7.9p22)

abbrev pub count : Initials → ℕ
count no_initial = 0
count (initials first rest) = suc (count rest)

-- a string has its end zero; another expression says none, and breaks rule 12 (whatever the length)
abbrev pub literal_length : Option (ℕ × List (List ℕ)) → ℕ
literal_length None = 1
literal_length (Some literal) = suc (length (bytes_of literal.1))

abbrev pub initial_elements : Initial → ℕ
initial_elements (initial e) = literal_length (literal_of e)
initial_elements (braces line items) = count items

-- ---- what code holds

abbrev pub view_made : CodeMade → Made
view_made (made.Single x) = single (view_operand x)
view_made (made.Text line bytes) = text line bytes.items
view_made (made.Listed a) = listed (view_structure a.value)

abbrev pub view_value : CodeValue → Value
view_value (values.Number e) = number_value (view e.value)
view_value (values.Structure a) = structure_value (view_structure a.value)

-- parts, of which the last stands first, unless a rule is broken
abbrev pub view_found : List CorePart → Option ℕ → Result Parts ℕ
view_found parts None = Ok (parts_of (reverse parts))
view_found parts (Some rule) = Err rule
