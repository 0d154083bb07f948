-- What names mean at a place of a file (C11 6.2.1, 6.2.3).
use Rattle.std.specs.Prelude.{ℕ, ◌-◌, ◌==◌, Bool, true, false, not, ◌&&◌, ◌||◌, List, [], ◌∷◌, ◌++◌, map, length, nat_lt, nat_le, slice_get, Option, Some, None, Vec, option_map, codes, if◌then◌else◌, refl}
use Rattle.std.specs.List.{list_all, list_any}
use Rattle.std.specs.Str.{bytes_eq}
use Rattle.std.specs.Global.{Global}
use Rattle.std.specs.Coded.{Coded, code_by, coded_ℕ, coded_bool, coded_list, coded_option, coded×}
use Rattle.c_types.specs.declared.integers.IntegerType.{IntegerType}
use Rattle.c_types.specs.declared.integers.IntegerType.TheVariants as types
use Rattle.c_types.specs.declared.types.RecordKind.TheVariants.{Struct}
use Rattle.c_types.specs.Types.{CType, Completed, Records, view, views, coded_type, coded_records}
use Rattle.c_types.specs.Types as ctypes
use Rattle.c_types.specs.Layouts.{is_complete, size_of}
use Rattle.core_tree.specs.declared.functions.PassedType.{PassedType}
use Rattle.core_tree.specs.declared.functions.PassedType.TheVariants as passed
use Rattle.core_tree.specs.declared.functions.Variable.{Variable as CoreVariable}
use Rattle.core_tree.specs.Typed.{Sizes, Signature, sizes_of_variables, homes_of}
use Rattle.c_scope.specs.declared.meaning.Meaning.{Meaning}
use Rattle.c_scope.specs.declared.meaning.Meaning.TheVariants.{Variable, Object, Incomplete, Assert, Assume, Draw, BuiltIn, Function, Typedef, Enumerator, Record, Enumeration}
use Rattle.c_scope.specs.declared.scope.QualifiedType.{QualifiedType}
use Rattle.c_scope.specs.declared.scope.ObjectEntry.{ObjectEntry as CodeObjectEntry}
use Rattle.c_scope.specs.declared.functions.FunctionType.{FunctionType as CodeFunctionType}
use Rattle.c_scope.specs.declared.functions.Callable.{Callable as CodeCallable}
use Rattle.c_scope.specs.declared.flow.Cases.{Cases as CodeCases}
use Rattle.c_scope.specs.declared.flow.Flow.{Flow as CodeFlow}
use Rattle.c_scope.specs.Members.{Members}

-- a declared name
pub record Binding : Type 0 where
  pub name : List ℕ
  pub meaning : Meaning

abbrev pub binding : List ℕ → Meaning → Binding
binding n m = record { name = n; meaning = m }

-- the declared names, the innermost first
abbrev pub Environment : Type 0
Environment = List Binding

-- a type, and whether it is const
pub record Named : Type 0 where
  pub type : CType
  pub constant : Bool

abbrev pub plain : CType → Named
plain t = record { type = t; constant = false }

abbrev pub view_named : QualifiedType → Named
view_named t = record { type = view t.type_; constant = t.constant }

-- ---- what each file has around it

-- the types of the built-in names by number; pthread_mutex_t is the first struct
abbrev pub built_in_types : List Named
built_in_types =
    plain (ctypes.integer types.UnsignedLong)
    ∷ plain (ctypes.integer types.Long)
    ∷ plain (ctypes.integer types.SignedChar)
    ∷ plain (ctypes.integer types.Short)
    ∷ plain (ctypes.integer types.Int)
    ∷ plain (ctypes.integer types.UnsignedChar)
    ∷ plain (ctypes.integer types.UnsignedShort)
    ∷ plain (ctypes.integer types.UnsignedInt)
    ∷ plain (ctypes.aggregate 0)
    ∷ []

-- a struct with a member of type unsigned
abbrev pub built_in_records : Records
built_in_records = record { declared = Struct ∷ []; done = record { place = 0; kind = Struct; members = ctypes.integer types.UnsignedInt ∷ [] } ∷ [] }

abbrev pub built_in_members : List Members
built_in_members = record { named = record { name = codes "__cell"; path = 0 ∷ []; constant = false } ∷ []; constant = false } ∷ []

-- the names that each file may use without a declaration
abbrev pub built_ins : Environment
built_ins =
    binding (codes "assert") Assert
    ∷ binding (codes "__CPROVER_assume") Assume
    ∷ binding (codes "nondet_bool") (Draw types.Bool)
    ∷ binding (codes "nondet_char") (Draw types.Char)
    ∷ binding (codes "nondet_uchar") (Draw types.UnsignedChar)
    ∷ binding (codes "nondet_short") (Draw types.Short)
    ∷ binding (codes "nondet_ushort") (Draw types.UnsignedShort)
    ∷ binding (codes "nondet_int") (Draw types.Int)
    ∷ binding (codes "nondet_uint") (Draw types.UnsignedInt)
    ∷ binding (codes "nondet_long") (Draw types.Long)
    ∷ binding (codes "nondet_ulong") (Draw types.UnsignedLong)
    ∷ binding (codes "nondet_size_t") (Draw types.UnsignedLong)
    ∷ binding (codes "size_t") (Typedef 0)
    ∷ binding (codes "uintptr_t") (Typedef 0)
    ∷ binding (codes "pthread_t") (Typedef 0)
    ∷ binding (codes "ptrdiff_t") (Typedef 1)
    ∷ binding (codes "intptr_t") (Typedef 1)
    ∷ binding (codes "int8_t") (Typedef 2)
    ∷ binding (codes "int16_t") (Typedef 3)
    ∷ binding (codes "int32_t") (Typedef 4)
    ∷ binding (codes "int64_t") (Typedef 1)
    ∷ binding (codes "uint8_t") (Typedef 5)
    ∷ binding (codes "uint16_t") (Typedef 6)
    ∷ binding (codes "uint32_t") (Typedef 7)
    ∷ binding (codes "uint64_t") (Typedef 0)
    ∷ binding (codes "pthread_mutex_t") (Typedef 8)
    ∷ []

-- ---- names and tags

-- a tag, which has a name space of its own
abbrev pub is_tag : Meaning → Bool
is_tag (Variable v) = false
is_tag (Object k) = false
is_tag Incomplete = false
is_tag Assert = false
is_tag Assume = false
is_tag (Draw t) = false
is_tag (BuiltIn b) = false
is_tag (Function f) = false
is_tag (Typedef n) = false
is_tag (Enumerator bits) = false
is_tag (Record p) = true
is_tag Enumeration = true

-- the name space of tags is that of a tag, and the other one that of what else has a name
abbrev pub in_space : Bool → Bool → Bool
in_space tags tag = if tags then tag else not tag

-- a binding of the name in a name space
abbrev pub is_called : Bool → List ℕ → Binding → Bool
is_called tags name b = in_space tags (is_tag b.meaning) && bytes_eq name b.name

-- what the innermost binding of a name says, or what it means where none has it
abbrev pub meaning_in : Bool → Option Meaning → Environment → List ℕ → Option Meaning
meaning_in tags other [] name = other
meaning_in tags other (b ∷ bs) name = if is_called tags name b then Some b.meaning else meaning_in tags other bs name

unfoldable pub built_in : List ℕ → Option Meaning
built_in name = meaning_in false None built_ins name

-- what a name means, unless it has no declaration in scope
abbrev pub meaning_of : Environment → List ℕ → Option Meaning
meaning_of bindings name = meaning_in false (built_in name) bindings name

-- what a tag means, unless it has no declaration in scope
abbrev pub tag_of : Environment → List ℕ → Option Meaning
tag_of bindings name = meaning_in true None bindings name

-- a name, or a tag, is among these
abbrev pub declares : Bool → Environment → List ℕ → Bool
declares tags bindings name = list_any (λ b. is_called tags name b) bindings

-- ---- scopes

-- An object that lives as long as the program: its type, which is that of its elements where it is an array whose length isn't
-- known so far, the bytes that its initializer says, whether it has a definition so far, and the line of its first declarator.
pub record ObjectEntry : Type 0 where
  pub named : Named
  pub unknown_length : Bool
  pub bytes : Option (List ℕ)
  pub defined : Bool
  pub line : ℕ

-- a name with linkage, and its object's number (C11 6.2.2)
pub record Linked : Type 0 where
  pub name : List ℕ
  pub object : ℕ

-- A function's type: what it gives, void where it gives nothing; the types of its parameters, without their qualifiers; and
-- whether an ellipsis stands behind these (C11 6.7.6.3).
pub record FunctionType : Type 0 where
  pub gives : Named
  pub parameters : List CType
  pub ellipsis : Bool

-- A function of the file: its name; the line of its name, in its definition, or in its first declarator where it has none so far;
-- its type; the line of its first declarator, where this has an ellipsis; the type of the number that it draws from the inputs,
-- where it does; and whether it has a definition so far.
pub record Callable : Type 0 where
  pub name : List ℕ
  pub line : ℕ
  pub type : FunctionType
  pub ellipsis : Option ℕ
  pub draws : Option IntegerType
  pub defined : Bool

-- The functions of a file: by number, in the order of their first declarators; their numbers by their names, each of which has
-- linkage (C11 6.2.2p5); the function types of the file by place, each once; and the names of the functions that the file defines
-- somewhere.
pub record FunctionTable : Type 0 where
  pub all : List Callable
  pub named : List Linked
  pub types : List FunctionType
  pub defined : List (List ℕ)

-- the cases of a switch so far: the type of its value, the bits of theirs, and whether `default` is among them
pub record Cases : Type 0 where
  pub type : IntegerType
  pub values : List ℕ
  pub has_default : Bool

-- What the function gives that is typed, how many loops and how many labels it has so far, and the cases of the innermost switch.
pub record Flow : Type 0 where
  pub gives : CType
  pub loops : ℕ
  pub labels : ℕ
  pub switch : Option Cases

-- A scope: the declared names, what typedefs name by number, the structs and unions by place with the members that `.` finds
-- in each, the types of the function's variables by number, the objects that live as long as the program, the first of which has
-- the number 1, the names of those with linkage, the functions, and how far the function is typed.
pub record Scoped : Type 0 where
  pub bindings : Environment
  pub types : List Named
  pub records : Records
  pub members : List Members
  pub variables : List Named
  pub objects : List ObjectEntry
  pub linked : List Linked
  pub functions : FunctionTable
  pub flow : Flow

abbrev pub view_object_entry : CodeObjectEntry → ObjectEntry
view_object_entry o = record { named = view_named o.named; unknown_length = o.unknown_length; bytes = option_map (λ v. v.items) o.bytes; defined = o.defined; line = o.line }

abbrev pub view_linked : Vec ℕ Global × ℕ → Linked
view_linked l = record { name = l.0.items; object = l.1 }

abbrev pub view_function_type : CodeFunctionType → FunctionType
view_function_type t = record { gives = record { type = view t.gives; constant = t.constant }; parameters = views t.parameters.items; ellipsis = t.ellipsis }

abbrev pub view_callable : CodeCallable → Callable
view_callable f = record { name = f.name.items; line = f.line; type = view_function_type f.type_; ellipsis = f.ellipsis; draws = f.draws; defined = f.defined }

abbrev pub view_cases : CodeCases → Cases
view_cases c = record { type = c.type_; values = c.values.keys; has_default = c.has_default }

abbrev pub view_flow : CodeFlow → Flow
view_flow f = record { gives = view f.gives; loops = f.loops; labels = f.labels; switch = option_map view_cases f.switch }

abbrev pub no_functions : FunctionTable
no_functions = record { all = []; named = []; types = []; defined = [] }

-- the file defines a function of this name somewhere
abbrev pub is_defined : FunctionTable → List ℕ → Bool
is_defined t name = list_any (λ n. bytes_eq name n) t.defined

abbrev pub with_defined : FunctionTable → List ℕ → FunctionTable
with_defined t name = record t { defined = if is_defined t name then t.defined else t.defined ++ name ∷ [] }

-- one more function with a name that none has so far
abbrev pub with_callable : FunctionTable → List ℕ → Callable → FunctionTable
with_callable t name f = record t { all = t.all ++ f ∷ []; named = t.named ++ record { name = name; object = length t.all } ∷ [] }

-- outside of functions
abbrev pub no_flow : Flow
no_flow = record { gives = ctypes.void; loops = 0; labels = 0; switch = None }

-- nothing is declared
abbrev pub first_scope : Scoped
first_scope = record { bindings = []; types = built_in_types; records = built_in_records; members = built_in_members; variables = []; objects = []; linked = []; functions = no_functions; flow = no_flow }

-- the place of a function's type among the function types of the file
abbrev pub function_number : CType → Option ℕ
function_number ctypes.void = None
function_number (ctypes.integer t) = None
function_number (ctypes.aggregate p) = None
function_number (ctypes.array e n) = None
function_number (ctypes.pointer t c) = None
function_number (ctypes.function f) = Some f

-- what a name means is there: a variable of the function, an object, a typedef's type, or a struct or union
abbrev pub is_there : ℕ → ℕ → ℕ → ℕ → Meaning → Bool
is_there variables objects types records (Variable v) = nat_lt v variables
is_there variables objects types records (Object k) = nat_le 1 k && nat_le k objects
is_there variables objects types records Incomplete = true
is_there variables objects types records Assert = true
is_there variables objects types records Assume = true
is_there variables objects types records (Draw t) = true
is_there variables objects types records (BuiltIn b) = true
is_there variables objects types records (Function f) = true
is_there variables objects types records (Typedef n) = nat_lt n types
is_there variables objects types records (Enumerator bits) = true
is_there variables objects types records (Record p) = nat_lt p records
is_there variables objects types records Enumeration = true

abbrev pub are_there : ℕ → ℕ → ℕ → ℕ → Environment → Bool
are_there variables objects types records bindings = list_all (λ b. is_there variables objects types records b.meaning) bindings

abbrev pub is_known : Scoped → Meaning → Bool
is_known s m = is_there (length s.variables) (length s.objects) (length s.types) (length s.records.declared) m

abbrev pub are_known : Scoped → Bool
are_known s = are_there (length s.variables) (length s.objects) (length s.types) (length s.records.declared) s.bindings

-- ---- the function's variables

abbrev pub are_complete : List Completed → List Named → Bool
are_complete done variables = list_all (λ n. is_complete done n.type) variables

-- a variable as its typed tree has it: so many bytes, const or not, and without an address
abbrev pub variable_by : ℕ → Bool → CoreVariable
variable_by size constant = record { size = size; readonly = constant; home = None }

abbrev pub variable_of : List Completed → Named → CoreVariable
variable_of done n = variable_by (size_of done n.type) n.constant

abbrev pub variables_of : List Completed → List Named → List CoreVariable
variables_of done variables = map (variable_of done) variables

abbrev pub variables_in : Scoped → List CoreVariable
variables_in s = variables_of s.records.done s.variables

-- their sizes in bytes
abbrev pub sizes_of : List Completed → List Named → List ℕ
sizes_of done variables = sizes_of_variables (variables_of done variables)

abbrev pub sizes : Scoped → List ℕ
sizes s = sizes_of s.records.done s.variables

-- ---- objects

-- the object with this number
abbrev pub object_at : Scoped → ℕ → Option ObjectEntry
object_at s k = if k == 0 then None else slice_get s.objects (k - 1)

-- the object that a name with linkage has already
abbrev pub linked_to : List Linked → List ℕ → Option ℕ
linked_to [] name = None
linked_to (l ∷ linked) name = if bytes_eq name l.name then Some l.object else linked_to linked name

-- its type isn't complete here (C11 6.2.5p22)
abbrev pub is_incomplete : List Completed → ObjectEntry → Bool
is_incomplete done o = o.unknown_length || not (is_complete done o.named.type)

-- how many bytes it has, as far as its type is complete
abbrev pub object_entry_size : List Completed → ObjectEntry → ℕ
object_entry_size done o = if is_incomplete done o then 0 else size_of done o.named.type

-- ---- functions

-- a value of this type, as a call hands it over: a pointer is a number of 64 bits
abbrev pub passed_as : List Completed → CType → PassedType
passed_as done ctypes.void = passed.Structure 0
passed_as done (ctypes.integer t) = passed.Integer t
passed_as done (ctypes.aggregate p) = passed.Structure (size_of done (ctypes.aggregate p))
passed_as done (ctypes.array e n) = passed.Structure (size_of done (ctypes.array e n))
passed_as done (ctypes.pointer t c) = passed.Integer types.UnsignedLong
passed_as done (ctypes.function f) = passed.Structure 0

abbrev pub given_by : List Completed → CType → Option PassedType
given_by done ctypes.void = None
given_by done (ctypes.integer t) = Some (passed_as done (ctypes.integer t))
given_by done (ctypes.aggregate p) = Some (passed_as done (ctypes.aggregate p))
given_by done (ctypes.array e n) = Some (passed_as done (ctypes.array e n))
given_by done (ctypes.pointer t c) = Some (passed_as done (ctypes.pointer t c))
given_by done (ctypes.function f) = Some (passed_as done (ctypes.function f))

abbrev pub signature_of : List Completed → Callable → Signature
signature_of done f = record { gives = given_by done f.type.gives.type; parameters = map (passed_as done) f.type.parameters }

-- the sizes of what expressions name, the types of the functions that they call, and what the function gives; no form has a pointer
abbrev pub all_sizes : Scoped → Sizes
all_sizes s = record {
  variables = sizes s;
  homes = homes_of (variables_in s);
  objects = map (object_entry_size s.records.done) s.objects;
  literals = 0;
  functions = map (signature_of s.records.done) s.functions.all;
  gives = given_by s.records.done s.flow.gives;
  pointers = false;
}

-- ---- codes, by which proofs tell scopes apart

abbrev pub coded_named : Coded Named
coded_named = code_by (CType × Bool) (coded× coded_type coded_bool) (λ n. (n.type, n.constant)) (λ p. record { type = p.0; constant = p.1 }) (λ _. refl)

abbrev pub coded_object_entry : Coded ObjectEntry
coded_object_entry = code_by (Named × (Bool × (Option (List ℕ) × (Bool × ℕ)))) (coded× coded_named (coded× coded_bool (coded× (coded_option (coded_list coded_ℕ)) (coded× coded_bool coded_ℕ))))
    (λ o. (o.named, (o.unknown_length, (o.bytes, (o.defined, o.line))))) (λ p. record { named = p.0; unknown_length = p.1.0; bytes = p.1.1.0; defined = p.1.1.1.0; line = p.1.1.1.1 }) (λ _. refl)

abbrev pub coded_linked : Coded Linked
coded_linked = code_by (List ℕ × ℕ) (coded× (coded_list coded_ℕ) coded_ℕ) (λ l. (l.name, l.object)) (λ p. record { name = p.0; object = p.1 }) (λ _. refl)

abbrev pub coded_function_type : Coded FunctionType
coded_function_type = code_by (Named × (List CType × Bool)) (coded× coded_named (coded× (coded_list coded_type) coded_bool))
    (λ t. (t.gives, (t.parameters, t.ellipsis))) (λ p. record { gives = p.0; parameters = p.1.0; ellipsis = p.1.1 }) (λ _. refl)

abbrev integer_in : CType → IntegerType
integer_in ctypes.void = types.Int
integer_in (ctypes.integer t) = t
integer_in (ctypes.aggregate p) = types.Int
integer_in (ctypes.array e n) = types.Int
integer_in (ctypes.pointer t c) = types.Int
integer_in (ctypes.function f) = types.Int

abbrev pub coded_integer : Coded IntegerType
coded_integer = code_by CType coded_type ctypes.integer integer_in (λ _. refl)

abbrev pub coded_callable : Coded Callable
coded_callable = code_by (List ℕ × (ℕ × (FunctionType × (Option ℕ × (Option IntegerType × Bool)))))
    (coded× (coded_list coded_ℕ) (coded× coded_ℕ (coded× coded_function_type (coded× (coded_option coded_ℕ) (coded× (coded_option coded_integer) coded_bool)))))
    (λ f. (f.name, (f.line, (f.type, (f.ellipsis, (f.draws, f.defined))))))
    (λ p. record { name = p.0; line = p.1.0; type = p.1.1.0; ellipsis = p.1.1.1.0; draws = p.1.1.1.1.0; defined = p.1.1.1.1.1 }) (λ _. refl)

abbrev pub coded_functions : Coded FunctionTable
coded_functions = code_by (List Callable × (List Linked × (List FunctionType × List (List ℕ))))
    (coded× (coded_list coded_callable) (coded× (coded_list coded_linked) (coded× (coded_list coded_function_type) (coded_list (coded_list coded_ℕ)))))
    (λ t. (t.all, (t.named, (t.types, t.defined)))) (λ p. record { all = p.0; named = p.1.0; types = p.1.1.0; defined = p.1.1.1 }) (λ _. refl)

abbrev pub coded_cases : Coded Cases
coded_cases = code_by (IntegerType × (List ℕ × Bool)) (coded× coded_integer (coded× (coded_list coded_ℕ) coded_bool))
    (λ c. (c.type, (c.values, c.has_default))) (λ p. record { type = p.0; values = p.1.0; has_default = p.1.1 }) (λ _. refl)

abbrev pub coded_flow : Coded Flow
coded_flow = code_by (CType × (ℕ × (ℕ × Option Cases))) (coded× coded_type (coded× coded_ℕ (coded× coded_ℕ (coded_option coded_cases))))
    (λ f. (f.gives, (f.loops, (f.labels, f.switch)))) (λ p. record { gives = p.0; loops = p.1.0; labels = p.1.1.0; switch = p.1.1.1 }) (λ _. refl)
