-- What declarators with pointers make of a type (C11 6.7.6.1 to 6.7.6.3). No tree has a pointer in a declarator so far.
use Rattle.std.specs.Prelude.{ℕ, ◌++◌, ◌||◌, Bool, true, false, List, [], ◌∷◌, map, reverse, Option, Some, None, Result, Ok, Err, if◌then◌else◌}
use Rattle.c_types.specs.Types.{CType, array, pointer, function as function_at, Completed}
use Rattle.c_scope.specs.Scopes.{Named, FunctionType}
use Rattle.c_scope.specs.Functions.{type_place, with_placed}
use Rattle.c_scope.specs.Faults.{◌>>=◌}
use Rattle.c_scope.specs.Types.{one_array, array_of, element_type}
use Rattle.c_elab_base.specs.Derivations.{Parameter, is_array, is_void, has_void, parameter_types}
use Rattle.c_elab_base.specs.Declarators.{complete_type, sized_type}

-- what one part of a declarator makes: an array of so many elements, of which `[]` has none; a pointer, which is const itself or
-- not; or a function with these parameters, and with an ellipsis or none
pub data Layer : Type 0 where
  counted : (n : Option ℕ) → Layer
  pointed : (constant : Bool) → Layer
  called : (parameters : List Parameter) (ellipsis : Bool) → Layer

-- an object's type, const or not, or a function's
pub data Shape : Type 0 where
  object : (named : Named) → Shape
  function : (type : FunctionType) → Shape

-- the parts of a declarator, the one next to its name first: those of the declarator in parentheses, the suffixes, and the
-- pointers before it, of which the last is next to the name
abbrev pub declared_layers : (inner suffixes : List Layer) → (pointers : List Bool) → List Layer
declared_layers inner suffixes pointers = inner ++ suffixes ++ reverse (map pointed pointers)

-- ---- types

-- a shape, and the function types of the file
abbrev pub Shaped : Type 0
Shaped = Shape × List FunctionType

abbrev pub named : CType → Bool → Named
named t constant = record { type = t; constant = constant }

-- rule 3: an element is a complete object; an array is const where its elements are
abbrev pub counted_shape : List Completed → Option ℕ → Shaped → Result Shaped ℕ
counted_shape done n (object m, fs) = one_array done m.type n >>= λ t. Ok (object (named t m.constant), fs)
counted_shape done n (function f, fs) = Err 3

abbrev pub pointed_shape : Bool → Shaped → Shaped
pointed_shape constant (object m, fs) = (object (named (pointer m.type m.constant) constant), fs)
pointed_shape constant (function f, fs) = (object (named (pointer (function_at (type_place fs f)) false) constant), with_placed fs f)

-- rule 6: a function gives no array and no function, and void isn't among its parameters
abbrev pub called_shape : List Parameter → Bool → Shaped → Result Shaped ℕ
called_shape ps ellipsis (object m, fs) =
    if is_array m.type || has_void ps then Err 6 else Ok (function (record { gives = m; parameters = parameter_types ps; ellipsis = ellipsis }), fs)
called_shape ps ellipsis (function f, fs) = Err 6

abbrev pub with_layer : List Completed → Layer → Shaped → Result Shaped ℕ
with_layer done (counted n) x = counted_shape done n x
with_layer done (pointed constant) x = Ok (pointed_shape constant x)
with_layer done (called ps ellipsis) x = called_shape ps ellipsis x

-- the type with these parts, the outermost first
abbrev pub layered : List Completed → List Layer → Shaped → Result Shaped ℕ
layered done [] x = Ok x
layered done (l ∷ ls) x = layered done ls x >>= with_layer done l

-- ---- objects and functions

-- the lengths of the arrays that are outermost, and the parts within
abbrev pub outer_lengths : List Layer → List (Option ℕ)
outer_lengths [] = []
outer_lengths (counted n ∷ ls) = n ∷ outer_lengths ls
outer_lengths (pointed constant ∷ ls) = []
outer_lengths (called ps ellipsis ∷ ls) = []

abbrev pub inner_layers : List Layer → List Layer
inner_layers [] = []
inner_layers (counted n ∷ ls) = inner_layers ls
inner_layers (pointed constant ∷ ls) = pointed constant ∷ ls
inner_layers (called ps ellipsis ∷ ls) = called ps ellipsis ∷ ls

-- the lengths of an object's arrays, and what their elements are, or a function's type; or the rule that is broken
pub data Derivation : Type 0 where
  lengths : (base : Result Named ℕ) (ns : List (Option ℕ)) → Derivation
  callable : (made : Result FunctionType ℕ) → Derivation

abbrev pub is_called : List Layer → Bool
is_called [] = false
is_called (counted n ∷ ls) = false
is_called (pointed constant ∷ ls) = false
is_called (called ps ellipsis ∷ ls) = true

-- rule 3: a function is no element
abbrev pub function_of : List (Option ℕ) → FunctionType → Derivation
function_of [] f = callable (Ok f)
function_of (n ∷ ns) f = callable (Err 3)

-- and the function types of the file
abbrev pub derivation_by : List FunctionType → (is_callable : Bool) → List (Option ℕ) → Result Shaped ℕ → Derivation × List FunctionType
derivation_by fs is_callable ns (Ok (object m, gs)) = (lengths (Ok m) ns, gs)
derivation_by fs is_callable ns (Ok (function f, gs)) = (function_of ns f, gs)
derivation_by fs false ns (Err rule) = (lengths (Err rule) ns, fs)
derivation_by fs true ns (Err rule) = (callable (Err rule), fs)

-- of a base with these parts
abbrev pub derivation : List FunctionType → List Completed → Shape → List Layer → Derivation × List FunctionType
derivation fs done base ls = derivation_by fs (is_called (inner_layers ls)) (outer_lengths ls) (layered done (inner_layers ls) (base, fs))

-- ---- type names (C11 6.7.7): `[]` says no length, and as an element none

abbrev pub type_by : List Completed → Derivation → Result Named ℕ
type_by done (lengths (Ok m) ns) = array_of done m.type ns >>= λ t. Ok (named t m.constant)
type_by done (lengths (Err rule) ns) = Err rule
type_by done (callable (Ok f)) = Err 3
type_by done (callable (Err rule)) = Err rule

-- ---- parameters (C11 6.7.6.3p7, p8)

-- an array of these elements is a pointer to them
abbrev pub pointer_to_elements : CType → Bool → CType
pointer_to_elements (array e n) constant = pointer e constant
pointer_to_elements t constant = t

-- Rule 3: a parameter has a complete type once it is adjusted. Void alone is none, and that among several is one of their
-- function's faults.
abbrev pub object_parameter : List Completed → Bool → Named → List (Option ℕ) → Result Named ℕ
object_parameter done several m [] = if is_void m.type then (if several then Ok m else Err 3) else sized_type done m.type >>= λ t. Ok m
object_parameter done several m (None ∷ ns) = do
  e ← element_type done m.type ns
  t ← complete_type done e
  Ok (named (pointer t m.constant) false)
object_parameter done several m (Some n ∷ ns) = array_of done m.type (Some n ∷ ns) >>= λ t. Ok (named (pointer_to_elements t m.constant) false)

abbrev pub adjusted : List Completed → Bool → Derivation × List FunctionType → Result (Named × List FunctionType) ℕ
adjusted done several (lengths (Ok m) ns, fs) = object_parameter done several m ns >>= λ n. Ok (n, fs)
adjusted done several (lengths (Err rule) ns, fs) = Err rule
adjusted done several (callable (Ok f), fs) = Ok (named (pointer (function_at (type_place fs f)) false) false, with_placed fs f)
adjusted done several (callable (Err rule), fs) = Err rule
