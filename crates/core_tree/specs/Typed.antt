-- What is true of each typed tree: its parts have the types that their places ask for, and the variables that it names are there (C11 6.5, 6.8).
use Rattle.std.specs.Prelude.{ℕ, ◌+◌, ◌-◌, ◌^◌, ◌==◌, Bool, true, false, not, ◌&&◌, ◌||◌, Option, Some, None, is_some, List, [], ◌∷◌, nat_lt, nat_le, length, map, slice_get, slice_index}
use Rattle.std.specs.List.{list_all}
use Rattle.c_types.specs.declared.integers.IntegerType.{IntegerType}
use Rattle.c_types.specs.declared.integers.IntegerType.TheVariants as types
use Rattle.c_types.specs.declared.types.ValueType.{ValueType}
use Rattle.c_types.specs.declared.types.ValueType.TheVariants.{Void, Integer}
use Rattle.c_types.specs.Integers.{width, bytes, promoted, same_integer, same_type}
use Rattle.core_tree.specs.declared.operators.ArithmeticOperator.{ArithmeticOperator}
use Rattle.core_tree.specs.declared.operators.ArithmeticOperator.TheVariants as arithmetics
use Rattle.core_tree.specs.declared.operators.Comparison.{Comparison}
use Rattle.core_tree.specs.declared.operators.Comparison.TheVariants as comparisons
use Rattle.core_tree.specs.declared.functions.Variable.{Variable}
use Rattle.core_tree.specs.declared.functions.Address.{Address}
use Rattle.core_tree.specs.declared.functions.Target.{Target}
use Rattle.core_tree.specs.declared.functions.Target.TheVariants as targets
use Rattle.core_tree.specs.Trees.{Place, variable_at, object_at, literal_at, pointed, arrow, member, element, subscript, Expression, constant, read, convert, sign, is_zero, arithmetic, compare, logical, choice, assign, update, step, comma, assertion, assumption, draw, part, discard, discard_structure, call, function_name, size_of_value, size_of_structure, address, sum, distance, relation, pointer_update, pointer_step, allocate, allocate_zeroed, release, exit, abort, Structure, copy, choose, put, follow, section, list, string, give, Parts, no_part, number_part, structure_part, Arguments, no_argument, number_argument, structure_argument, Statement, block, if_then, if_else, evaluate, returns, returns_structure, returns_nothing, for_loop, do_loop, switch, breaks, continues, jumps, stray, Items, done, declares, initializes, initializes_structure, does, label, case_at, default_at, Procedure, Static, TypedFile}
use Rattle.core_tree.specs.declared.functions.PassedType.{PassedType}
use Rattle.core_tree.specs.declared.functions.PassedType.TheVariants as passed

-- ---- the type of a tree

abbrev pub type_of : Expression → ValueType
type_of (constant line t bits) = Integer t
type_of (read t p) = Integer t
type_of (convert to e) = Integer to
type_of (sign line op e) = type_of e
type_of (is_zero line e) = Integer types.Int
type_of (arithmetic line op a b) = type_of a
type_of (compare line op a b) = Integer types.Int
type_of (logical line op a b) = Integer types.Int
type_of (choice line test a b) = type_of a
type_of (assign line t p e) = Integer t
type_of (update line t p op u e) = Integer t
type_of (step line t p op before) = Integer t
type_of (comma line a b) = type_of b
type_of (assertion line e) = Void
type_of (assumption line e) = Void
type_of (draw line t) = Integer t
type_of (part line t offset a) = Integer t
type_of (discard line e) = Void
type_of (discard_structure a) = Void
type_of (call line f used t args) = t
type_of (function_name line) = Void
type_of (size_of_value line bits e) = Integer types.UnsignedLong
type_of (size_of_structure line bits a) = Integer types.UnsignedLong
type_of (address line p) = Integer types.UnsignedLong
type_of (sum line a e n swapped) = Integer types.UnsignedLong
type_of (distance line a b n) = Integer types.Long
type_of (relation line op a b) = Integer types.Int
type_of (pointer_update line p n e) = Integer types.UnsignedLong
type_of (pointer_step line p n before) = Integer types.UnsignedLong
type_of (allocate line e) = Integer types.UnsignedLong
type_of (allocate_zeroed line a b) = Integer types.UnsignedLong
type_of (release line e) = Void
type_of (exit line e) = Void
type_of (abort line) = Void

-- how many bytes a structure value has
abbrev pub size_of : Structure → ℕ
size_of (copy p size) = size
size_of (choose line test a b) = size_of a
size_of (put line p a) = size_of a
size_of (follow line e a) = size_of a
size_of (section line offset size a) = size
size_of (list line size ps) = size
size_of (string line size bytes) = size
size_of (give line f used size args) = size

-- ---- tests of types

abbrev pub is_integer : ValueType → Bool
is_integer Void = false
is_integer (Integer t) = true

-- an integer type that the promotions leave as it is
abbrev pub is_promoted : ValueType → Bool
is_promoted Void = false
is_promoted (Integer t) = same_integer (promoted t) t

abbrev pub is_shift : ArithmeticOperator → Bool
is_shift arithmetics.Multiply = false
is_shift arithmetics.Divide = false
is_shift arithmetics.Remainder = false
is_shift arithmetics.Add = false
is_shift arithmetics.Subtract = false
is_shift arithmetics.ShiftLeft = true
is_shift arithmetics.ShiftRight = true
is_shift arithmetics.And = false
is_shift arithmetics.Xor = false
is_shift arithmetics.Or = false

-- operands of promoted types, which are one but for shifts
abbrev pub are_operands : ArithmeticOperator → ValueType → ValueType → Bool
are_operands op a b = is_promoted a && is_promoted b && (is_shift op || same_type a b)

-- a pointer is a number of type unsigned long
abbrev pub is_pointer : ValueType → Bool
is_pointer t = same_type t (Integer types.UnsignedLong)

-- one of the four that say which of two comes first
abbrev pub is_order : Comparison → Bool
is_order comparisons.Less = true
is_order comparisons.Greater = true
is_order comparisons.LessEqual = true
is_order comparisons.GreaterEqual = true
is_order comparisons.Equal = false
is_order comparisons.NotEqual = false

-- ---- trees, over the sizes of the objects and the types of the functions that they name

-- what a function gives, none where that is void, and the types of its parameters
pub record Signature : Type 0 where
  pub gives : Option PassedType
  pub parameters : List PassedType

-- how many bytes the variables of a function have by their numbers, and which of them have an address, with the variable that holds it; how many bytes the static objects have, the first of which has the number 1, and how many literals there are; the functions by their numbers; what the function itself gives; and whether forms with pointers may stand
pub record Sizes : Type 0 where
  pub variables : List ℕ
  pub homes : List (Option ℕ)
  pub objects : List ℕ
  pub literals : ℕ
  pub functions : List Signature
  pub gives : Option PassedType
  pub pointers : Bool

-- so many bytes from an offset of a variable on lie in it
abbrev pub is_within : List ℕ → ℕ → ℕ → ℕ → Bool
is_within variables v offset count = nat_lt v (length variables) && nat_le (offset + count) (slice_index variables v)

-- so many bytes from an offset of a static object on lie in it
abbrev pub is_in_object : List ℕ → ℕ → ℕ → ℕ → Bool
is_in_object objects k offset count = nat_le 1 k && is_within objects (k - 1) offset count

-- a variable has an address
abbrev pub is_there : Option (Option ℕ) → Bool
is_there None = false
is_there (Some home) = is_some home

abbrev pub has_home : List (Option ℕ) → ℕ → Bool
has_home homes v = is_there (slice_get homes v)

-- how many bytes the named object has in which a place lies; none where a pointer tells the object
abbrev pub object_size : Sizes → Place → Option ℕ
object_size sizes (variable_at line v offset) = slice_get sizes.variables v
object_size sizes (object_at line k offset) = slice_get sizes.objects (k - 1)
object_size sizes (literal_at line k) = None
object_size sizes (pointed line e) = None
object_size sizes (arrow line e offset) = None
object_size sizes (member line p offset) = object_size sizes p
object_size sizes (element line p e size whole swapped) = object_size sizes p
object_size sizes (subscript line a e size swapped) = None

abbrev pub is_size : Option ℕ → ℕ → Bool
is_size None n = false
is_size (Some m) n = m == n

-- what lies there has an address
abbrev pub has_address : Sizes → Place → Bool
has_address sizes (variable_at line v offset) = has_home sizes.homes v
has_address sizes (object_at line k offset) = true
has_address sizes (literal_at line k) = true
has_address sizes (pointed line e) = true
has_address sizes (arrow line e offset) = true
has_address sizes (member line p offset) = has_address sizes p
has_address sizes (element line p e size whole swapped) = has_address sizes p
has_address sizes (subscript line a e size swapped) = true

-- a value of an integer type at an offset of so many bytes
abbrev pub fits_at : ℕ → ℕ → ValueType → Bool
fits_at size offset Void = false
fits_at size offset (Integer t) = nat_le (offset + bytes t) size

-- a value of an integer type that is as large as a variable
abbrev pub fills : List ℕ → ℕ → ValueType → Bool
fills variables v Void = false
fills variables v (Integer t) = nat_lt v (length variables) && bytes t == slice_index variables v

abbrev pub same_passed : PassedType → PassedType → Bool
same_passed (passed.Integer t) (passed.Integer u) = same_integer t u
same_passed (passed.Integer t) (passed.Structure n) = false
same_passed (passed.Structure m) (passed.Integer u) = false
same_passed (passed.Structure m) (passed.Structure n) = m == n

abbrev pub same_given : Option PassedType → Option PassedType → Bool
same_given None None = true
same_given None (Some q) = false
same_given (Some p) None = false
same_given (Some p) (Some q) = same_passed p q

-- a function without value, or with one of this type
abbrev pub given_as : ValueType → Option PassedType
given_as Void = None
given_as (Integer t) = Some (passed.Integer t)

-- a function with this number gives that
abbrev pub gives_this : Option PassedType → Option Signature → Bool
gives_this gives None = false
gives_this gives (Some f) = same_given f.gives gives

abbrev pub parameters_of : Option Signature → List PassedType
parameters_of None = []
parameters_of (Some f) = f.parameters

abbrev mutual
  -- so many bytes can be read and written there: within the object where that is known, else a pointer tells it
  pub is_place : Sizes → ℕ → Place → Bool
  is_place sizes n (variable_at line v offset) = is_within sizes.variables v offset n
  is_place sizes n (object_at line k offset) = is_in_object sizes.objects k offset n
  is_place sizes n (literal_at line k) = sizes.pointers && nat_lt k sizes.literals
  is_place sizes n (pointed line e) = sizes.pointers && is_pointer (type_of e) && is_typed sizes e
  is_place sizes n (arrow line e offset) = sizes.pointers && is_pointer (type_of e) && is_typed sizes e
  is_place sizes n (member line p offset) = sizes.pointers && is_place sizes (offset + n) p
  is_place sizes n (element line p e size whole swapped) = sizes.pointers && nat_le n size && nat_lt 0 size && is_size (object_size sizes p) whole && is_integer (type_of e) && is_place sizes 0 p && is_typed sizes e
  is_place sizes n (subscript line a e size swapped) = sizes.pointers && nat_lt 0 size && is_pointer (type_of a) && is_integer (type_of e) && is_typed sizes a && is_typed sizes e

  pub is_typed : Sizes → Expression → Bool
  is_typed sizes (constant line t bits) = nat_lt bits (2 ^ width t)
  is_typed sizes (read t p) = is_place sizes (bytes t) p
  is_typed sizes (convert to e) = is_integer (type_of e) && is_typed sizes e
  is_typed sizes (sign line op e) = is_promoted (type_of e) && is_typed sizes e
  is_typed sizes (is_zero line e) = is_integer (type_of e) && is_typed sizes e
  is_typed sizes (arithmetic line op a b) = are_operands op (type_of a) (type_of b) && is_typed sizes a && is_typed sizes b
  is_typed sizes (compare line op a b) = is_promoted (type_of a) && same_type (type_of a) (type_of b) && is_typed sizes a && is_typed sizes b
  is_typed sizes (logical line op a b) = is_integer (type_of a) && is_integer (type_of b) && is_typed sizes a && is_typed sizes b
  is_typed sizes (choice line test a b) = is_integer (type_of test) && same_type (type_of a) (type_of b) && is_typed sizes test && is_typed sizes a && is_typed sizes b
  is_typed sizes (assign line t p e) = is_place sizes (bytes t) p && same_type (type_of e) (Integer t) && is_typed sizes e
  is_typed sizes (update line t p op u e) = is_place sizes (bytes t) p && are_operands op (Integer u) (type_of e) && is_typed sizes e
  is_typed sizes (step line t p op before) = is_place sizes (bytes t) p
  is_typed sizes (comma line a b) = is_typed sizes a && is_typed sizes b
  is_typed sizes (assertion line e) = is_integer (type_of e) && is_typed sizes e
  is_typed sizes (assumption line e) = is_integer (type_of e) && is_typed sizes e
  is_typed sizes (draw line t) = true
  is_typed sizes (part line t offset a) = nat_le (offset + bytes t) (size_of a) && is_structure sizes a
  is_typed sizes (discard line e) = is_integer (type_of e) && is_typed sizes e
  is_typed sizes (discard_structure a) = is_structure sizes a
  is_typed sizes (call line f used t args) =
      (not used || is_integer t) && gives_this (given_as t) (slice_get sizes.functions f) && are_arguments sizes (parameters_of (slice_get sizes.functions f)) args
  is_typed sizes (function_name line) = true
  is_typed sizes (size_of_value line bits e) = nat_lt bits (2 ^ 64) && is_typed sizes e
  is_typed sizes (size_of_structure line bits a) = nat_lt bits (2 ^ 64) && is_structure sizes a
  is_typed sizes (address line p) = sizes.pointers && has_address sizes p && is_place sizes 0 p
  is_typed sizes (sum line a e n swapped) = sizes.pointers && is_pointer (type_of a) && is_integer (type_of e) && is_typed sizes a && is_typed sizes e
  is_typed sizes (distance line a b n) = sizes.pointers && nat_lt 0 n && is_pointer (type_of a) && is_pointer (type_of b) && is_typed sizes a && is_typed sizes b
  is_typed sizes (relation line op a b) = sizes.pointers && is_order op && is_pointer (type_of a) && is_pointer (type_of b) && is_typed sizes a && is_typed sizes b
  is_typed sizes (pointer_update line p n e) = sizes.pointers && is_integer (type_of e) && is_place sizes 8 p && is_typed sizes e
  is_typed sizes (pointer_step line p n before) = sizes.pointers && is_place sizes 8 p
  is_typed sizes (allocate line e) = sizes.pointers && is_pointer (type_of e) && is_typed sizes e
  is_typed sizes (allocate_zeroed line a b) = sizes.pointers && is_pointer (type_of a) && is_pointer (type_of b) && is_typed sizes a && is_typed sizes b
  is_typed sizes (release line e) = sizes.pointers && is_pointer (type_of e) && is_typed sizes e
  is_typed sizes (exit line e) = sizes.pointers && same_type (type_of e) (Integer types.Int) && is_typed sizes e
  is_typed sizes (abort line) = sizes.pointers

  pub is_structure : Sizes → Structure → Bool
  is_structure sizes (copy p size) = is_place sizes size p
  is_structure sizes (choose line test a b) = is_integer (type_of test) && size_of a == size_of b && is_typed sizes test && is_structure sizes a && is_structure sizes b
  is_structure sizes (put line p a) = is_place sizes (size_of a) p && is_structure sizes a
  is_structure sizes (follow line e a) = is_typed sizes e && is_structure sizes a
  is_structure sizes (section line offset size a) = nat_le (offset + size) (size_of a) && is_structure sizes a
  is_structure sizes (list line size ps) = nat_lt size (2 ^ 31) && are_parts sizes size ps
  is_structure sizes (string line size bytes) = nat_lt size (2 ^ 31) && nat_le (length bytes) size && list_all (λ b. nat_lt b 256) bytes
  is_structure sizes (give line f used size args) =
      nat_lt size (2 ^ 31) && gives_this (Some (passed.Structure size)) (slice_get sizes.functions f) && are_arguments sizes (parameters_of (slice_get sizes.functions f)) args

  -- parts of so many bytes
  pub are_parts : Sizes → ℕ → Parts → Bool
  are_parts sizes size no_part = true
  are_parts sizes size (number_part offset e rest) = fits_at size offset (type_of e) && is_typed sizes e && are_parts sizes size rest
  are_parts sizes size (structure_part offset a rest) = nat_le (offset + size_of a) size && is_structure sizes a && are_parts sizes size rest

  -- as many arguments as parameters, each of its parameter's type
  pub are_arguments : Sizes → List PassedType → Arguments → Bool
  are_arguments sizes [] no_argument = true
  are_arguments sizes (p ∷ ps) no_argument = false
  are_arguments sizes [] (number_argument e rest) = false
  are_arguments sizes (p ∷ ps) (number_argument e rest) = same_given (Some p) (given_as (type_of e)) && is_typed sizes e && are_arguments sizes ps rest
  are_arguments sizes [] (structure_argument a rest) = false
  are_arguments sizes (p ∷ ps) (structure_argument a rest) = same_passed p (passed.Structure (size_of a)) && is_structure sizes a && are_arguments sizes ps rest

-- nothing, or a tree that is typed
abbrev pub is_typed_part : Sizes → Option Expression → Bool
is_typed_part sizes None = true
is_typed_part sizes (Some e) = is_typed sizes e

-- nothing, or a test
abbrev pub is_test : Sizes → Option Expression → Bool
is_test sizes None = true
is_test sizes (Some e) = is_integer (type_of e) && is_typed sizes e

-- each case among these items has this type
abbrev pub are_cases : ValueType → Items → Bool
are_cases t done = true
are_cases t (declares line v rest) = are_cases t rest
are_cases t (initializes line v drawn e rest) = are_cases t rest
are_cases t (initializes_structure line v drawn a rest) = are_cases t rest
are_cases t (does s rest) = are_cases t rest
are_cases t (label n rest) = are_cases t rest
are_cases t (case_at line u bits rest) = same_type t (Integer u) && are_cases t rest
are_cases t (default_at line rest) = are_cases t rest

-- what `return` hands over is what the function gives
abbrev mutual
  pub is_typed_statement : Sizes → Statement → Bool
  is_typed_statement sizes (block items) = are_typed_items sizes items
  is_typed_statement sizes (if_then line test s) = is_integer (type_of test) && is_typed sizes test && is_typed_statement sizes s
  is_typed_statement sizes (if_else line test s t) = is_integer (type_of test) && is_typed sizes test && is_typed_statement sizes s && is_typed_statement sizes t
  is_typed_statement sizes (evaluate e) = is_typed sizes e
  is_typed_statement sizes (returns line e) = is_integer (type_of e) && same_given sizes.gives (given_as (type_of e)) && is_typed sizes e
  is_typed_statement sizes (returns_structure line a) = same_given sizes.gives (Some (passed.Structure (size_of a))) && is_structure sizes a
  is_typed_statement sizes (returns_nothing line) = same_given sizes.gives None
  is_typed_statement sizes (for_loop line n first test last s) =
      is_typed_part sizes first && is_test sizes test && is_typed_part sizes last && is_typed_statement sizes s
  is_typed_statement sizes (do_loop line n s test) = is_typed_statement sizes s && is_integer (type_of test) && is_typed sizes test
  is_typed_statement sizes (switch line e items) = is_promoted (type_of e) && is_typed sizes e && are_cases (type_of e) items && are_typed_items sizes items
  is_typed_statement sizes (breaks line) = true
  is_typed_statement sizes (continues line) = true
  is_typed_statement sizes (jumps line n) = true
  is_typed_statement sizes (stray line s) = is_typed_statement sizes s

  pub are_typed_items : Sizes → Items → Bool
  are_typed_items sizes done = true
  are_typed_items sizes (declares line v rest) = nat_lt v (length sizes.variables) && are_typed_items sizes rest
  are_typed_items sizes (initializes line v drawn e rest) =
      fills sizes.variables v (type_of e) && is_typed sizes e && are_typed_items sizes rest
  are_typed_items sizes (initializes_structure line v drawn a rest) =
      nat_lt v (length sizes.variables) && size_of a == slice_index sizes.variables v && is_structure sizes a && are_typed_items sizes rest
  are_typed_items sizes (does s rest) = is_typed_statement sizes s && are_typed_items sizes rest
  are_typed_items sizes (label n rest) = are_typed_items sizes rest
  are_typed_items sizes (case_at line t bits rest) = nat_lt bits (2 ^ width t) && are_typed_items sizes rest
  are_typed_items sizes (default_at line rest) = are_typed_items sizes rest

-- ---- files

-- an address points to a static object or a literal that is there
abbrev pub is_target : (objects literals : ℕ) → Target → Bool
is_target objects literals (targets.Object k) = nat_le 1 k && nat_le k objects
is_target objects literals (targets.Literal k) = nat_lt k literals

-- fewer than 2 ^ 31 bytes, of which no more are said than there are; and the addresses among them lie within
abbrev pub is_static : (objects literals : ℕ) → Static → Bool
is_static objects literals o =
    nat_lt o.size (2 ^ 31) && nat_le (length o.bytes) o.size && list_all (λ b. nat_lt b 256) o.bytes && list_all (λ (a : Address). nat_le (a.at + 8) o.size && is_target objects literals a.target) o.addresses

abbrev pub are_static : TypedFile → Bool
are_static file = list_all (is_static (length file.objects) (length file.literals)) file.objects

-- the number of bytes of each variable
abbrev pub sizes_of_variables : List Variable → List ℕ
sizes_of_variables variables = map (λ (v : Variable). v.size) variables

abbrev pub homes_of : List Variable → List (Option ℕ)
homes_of variables = map (λ (v : Variable). v.home) variables

-- variables of fewer than 2 ^ 31 bytes each
abbrev pub are_small : List Variable → Bool
are_small variables = list_all (λ (v : Variable). nat_lt v.size (2 ^ 31)) variables

-- the variable that holds an address has 8 bytes; where no form with a pointer may stand there is none
abbrev pub is_home : Sizes → Option ℕ → Bool
is_home sizes None = true
is_home sizes (Some h) = sizes.pointers && nat_lt h (length sizes.variables) && (slice_index sizes.variables h == 8)

abbrev pub have_small : List Procedure → Bool
have_small functions = list_all (λ (f : Procedure). are_small f.variables) functions

abbrev pub sizes_of_objects : List Static → List ℕ
sizes_of_objects objects = map (λ (o : Static). o.size) objects

abbrev pub signature : Procedure → Signature
signature f = record { gives = f.gives; parameters = f.parameters }

-- what a function with these variables names that gives this: its variables, the file's static objects and literals, and its functions
abbrev pub sizes_with : TypedFile → List Variable → Option PassedType → Sizes
sizes_with file variables gives = record {
  variables = sizes_of_variables variables;
  homes = homes_of variables;
  objects = sizes_of_objects file.objects;
  literals = length file.literals;
  functions = map signature file.functions;
  gives = gives;
  pointers = file.pointers;
}

abbrev pub sizes_in : TypedFile → Procedure → Sizes
sizes_in file f = sizes_with file f.variables f.gives

abbrev pub passed_size : PassedType → ℕ
passed_size (passed.Integer t) = bytes t
passed_size (passed.Structure size) = size

-- the parameters are the first variables
abbrev pub have_parameters : List ℕ → List PassedType → Bool
have_parameters variables [] = true
have_parameters [] (p ∷ ps) = false
have_parameters (v ∷ vs) (p ∷ ps) = v == passed_size p && have_parameters vs ps

abbrev pub is_typed_body : Sizes → Option Statement → Bool
is_typed_body sizes None = true
is_typed_body sizes (Some s) = is_typed_statement sizes s

-- a function that is defined has its parameters among its variables
abbrev pub is_typed_function : TypedFile → Procedure → Bool
is_typed_function file f = (have_parameters (sizes_of_variables f.variables) f.parameters || not (is_some f.body)) && list_all (is_home (sizes_in file f)) (homes_of f.variables) && is_typed_body (sizes_in file f) f.body

abbrev pub are_typed : TypedFile → Bool
are_typed file = are_static file && list_all (is_typed_function file) file.functions

-- ---- which variables an expression names where it is evaluated

abbrev mutual
  pub place_names : ℕ → Place → Bool
  place_names v (variable_at line w offset) = v == w
  place_names v (object_at line k offset) = false
  place_names v (literal_at line k) = false
  place_names v (pointed line e) = names_variable v e
  place_names v (arrow line e offset) = names_variable v e
  place_names v (member line p offset) = place_names v p
  place_names v (element line p e size whole swapped) = place_names v p || names_variable v e
  place_names v (subscript line a e size swapped) = names_variable v a || names_variable v e

  pub names_variable : ℕ → Expression → Bool
  names_variable v (constant line t bits) = false
  names_variable v (read t p) = place_names v p
  names_variable v (convert to e) = names_variable v e
  names_variable v (sign line op e) = names_variable v e
  names_variable v (is_zero line e) = names_variable v e
  names_variable v (arithmetic line op a b) = names_variable v a || names_variable v b
  names_variable v (compare line op a b) = names_variable v a || names_variable v b
  names_variable v (logical line op a b) = names_variable v a || names_variable v b
  names_variable v (choice line test a b) = names_variable v test || names_variable v a || names_variable v b
  names_variable v (assign line t p e) = place_names v p || names_variable v e
  names_variable v (update line t p op u e) = place_names v p || names_variable v e
  names_variable v (step line t p op before) = place_names v p
  names_variable v (comma line a b) = names_variable v a || names_variable v b
  names_variable v (assertion line e) = names_variable v e
  names_variable v (assumption line e) = names_variable v e
  names_variable v (draw line t) = false
  names_variable v (part line t offset a) = structure_names v a
  names_variable v (discard line e) = names_variable v e
  names_variable v (discard_structure a) = structure_names v a
  names_variable v (call line f used t args) = arguments_name v args
  names_variable v (function_name line) = false
  names_variable v (size_of_value line bits e) = false
  names_variable v (size_of_structure line bits a) = false
  names_variable v (address line p) = place_names v p
  names_variable v (sum line a e n swapped) = names_variable v a || names_variable v e
  names_variable v (distance line a b n) = names_variable v a || names_variable v b
  names_variable v (relation line op a b) = names_variable v a || names_variable v b
  names_variable v (pointer_update line p n e) = place_names v p || names_variable v e
  names_variable v (pointer_step line p n before) = place_names v p
  names_variable v (allocate line e) = names_variable v e
  names_variable v (allocate_zeroed line a b) = names_variable v a || names_variable v b
  names_variable v (release line e) = names_variable v e
  names_variable v (exit line e) = names_variable v e
  names_variable v (abort line) = false

  pub structure_names : ℕ → Structure → Bool
  structure_names v (copy p size) = place_names v p
  structure_names v (choose line test a b) = names_variable v test || structure_names v a || structure_names v b
  structure_names v (put line p a) = place_names v p || structure_names v a
  structure_names v (follow line e a) = names_variable v e || structure_names v a
  structure_names v (section line offset size a) = structure_names v a
  structure_names v (list line size ps) = parts_name v ps
  structure_names v (string line size bytes) = false
  structure_names v (give line f used size args) = arguments_name v args

  pub parts_name : ℕ → Parts → Bool
  parts_name v no_part = false
  parts_name v (number_part offset e rest) = names_variable v e || parts_name v rest
  parts_name v (structure_part offset a rest) = structure_names v a || parts_name v rest

  pub arguments_name : ℕ → Arguments → Bool
  arguments_name v no_argument = false
  arguments_name v (number_argument e rest) = names_variable v e || arguments_name v rest
  arguments_name v (structure_argument a rest) = structure_names v a || arguments_name v rest
