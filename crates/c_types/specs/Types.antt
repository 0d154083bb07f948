-- The types of C without where they lie in memory (C11 6.2.5), and the records of a file.
use Rattle.std.specs.Prelude.{ℕ, zero, suc, ◌≡◌, Bool, true, false, List, [], ◌∷◌, map, get_or, refl}
use Rattle.std.specs.Coded.{Coded, code_by, coded_ℕ, coded_list, coded×}
use mathlib.Core.Path.{ap, ◌∙◌}
use Rattle.c_types.specs.declared.integers.IntegerType.{IntegerType}
use Rattle.c_types.specs.declared.integers.IntegerType.TheVariants as integers
use Rattle.c_types.specs.declared.types.Ty.{Ty}
use Rattle.c_types.specs.declared.types.Ty as codes
use Rattle.c_types.specs.declared.types.RecordKind.{RecordKind}
use Rattle.c_types.specs.declared.types.RecordKind.TheVariants.{Struct, Union}
use Rattle.c_types.specs.Integers.{number_of}

-- void, an integer type, a struct or union by its place, an array, a pointer, with whether what it points to is const, or the type
-- of a function, by its place among the function types of the file (C11 6.2.5p19, p17, p20)
pub data CType : Type 0 where
  void : CType
  integer : (type : IntegerType) → CType
  aggregate : (place : ℕ) → CType
  array : (element : CType) (length : ℕ) → CType
  pointer : (to : CType) (constant : Bool) → CType
  function : (place : ℕ) → CType

abbrev pub view : Ty → CType
view codes.Void = void
view (codes.Integer t) = integer t
view (codes.Record n) = aggregate n
view (codes.Array' p e k) = array (view e) k
view (codes.Pointer' p t c) = pointer (view t) c
view (codes.Function n) = function n

abbrev pub views : List Ty → List CType
views types = map view types

-- a completed struct or union: its place, and the types of its members in order
pub record Completed : Type 0 where
  pub place : ℕ
  pub kind : RecordKind
  pub members : List CType

-- the structs and unions of a file: of each that is declared its kind, by place, and those that are
-- completed, the last completed first
pub record Records : Type 0 where
  pub declared : List RecordKind
  pub done : List Completed

-- ---- codes, by which proofs tell these apart

abbrev type_at : ℕ → IntegerType
type_at n = get_or (integers.Bool ∷ integers.Char ∷ integers.SignedChar ∷ integers.UnsignedChar ∷ integers.Short ∷ integers.UnsignedShort ∷ integers.Int
    ∷ integers.UnsignedInt ∷ integers.Long ∷ integers.UnsignedLong ∷ integers.LongLong ∷ integers.UnsignedLongLong ∷ []) n integers.Int

type_at_number : (t : IntegerType) → type_at (number_of t) ≡ t
type_at_number integers.Bool = refl
type_at_number integers.Char = refl
type_at_number integers.SignedChar = refl
type_at_number integers.UnsignedChar = refl
type_at_number integers.Short = refl
type_at_number integers.UnsignedShort = refl
type_at_number integers.Int = refl
type_at_number integers.UnsignedInt = refl
type_at_number integers.Long = refl
type_at_number integers.UnsignedLong = refl
type_at_number integers.LongLong = refl
type_at_number integers.UnsignedLongLong = refl

-- the arrays and pointers of a type, the outermost first; what is innermost
abbrev number_pointer : Bool → ℕ
number_pointer false = 0
number_pointer true = 1

abbrev layers_of : CType → List ℕ
layers_of void = []
layers_of (integer t) = []
layers_of (aggregate n) = []
layers_of (array e k) = suc (suc k) ∷ layers_of e
layers_of (pointer t c) = number_pointer c ∷ layers_of t
layers_of (function n) = []

abbrev innermost : CType → ℕ × ℕ
innermost void = (0, 0)
innermost (integer t) = (1, number_of t)
innermost (aggregate n) = (2, n)
innermost (array e k) = innermost e
innermost (pointer t c) = innermost t
innermost (function n) = (3, n)

abbrev type_of_innermost : ℕ → ℕ → CType
type_of_innermost zero n = void
type_of_innermost (suc zero) n = integer (type_at n)
type_of_innermost (suc (suc zero)) n = aggregate n
type_of_innermost (suc (suc (suc _))) n = function n

abbrev layer : ℕ → CType → CType
layer zero t = pointer t false
layer (suc zero) t = pointer t true
layer (suc (suc k)) t = array t k

abbrev layered : List ℕ → CType → CType
layered [] t = t
layered (l ∷ ls) t = layer l (layered ls t)

abbrev number_type : CType → List ℕ × (ℕ × ℕ)
number_type t = (layers_of t, innermost t)

abbrev type_numbered : List ℕ × (ℕ × ℕ) → CType
type_numbered c = layered c.0 (type_of_innermost c.1.0 c.1.1)

pointer_number : (t : CType) (c : Bool) → layer (number_pointer c) t ≡ pointer t c
pointer_number t false = refl
pointer_number t true = refl

pub type_numbered_number : (t : CType) → type_numbered (number_type t) ≡ t
type_numbered_number void = refl
type_numbered_number (integer t) = ap integer (type_at_number t)
type_numbered_number (aggregate n) = refl
type_numbered_number (array e k) = ap (λ (x : CType). array x k) (type_numbered_number e)
type_numbered_number (pointer t c) = pointer_number (type_numbered (number_type t)) c ∙ ap (λ (x : CType). pointer x c) (type_numbered_number t)
type_numbered_number (function n) = refl

abbrev pub coded_type : Coded CType
coded_type = code_by (List ℕ × (ℕ × ℕ)) (coded× (coded_list coded_ℕ) (coded× coded_ℕ coded_ℕ)) number_type type_numbered type_numbered_number

abbrev number_kind : RecordKind → ℕ
number_kind Struct = 0
number_kind Union = 1

abbrev kind_numbered : ℕ → RecordKind
kind_numbered zero = Struct
kind_numbered (suc _) = Union

pub kind_numbered_number : (k : RecordKind) → kind_numbered (number_kind k) ≡ k
kind_numbered_number Struct = refl
kind_numbered_number Union = refl

abbrev pub coded_kind : Coded RecordKind
coded_kind = code_by ℕ coded_ℕ number_kind kind_numbered kind_numbered_number

abbrev pub coded_completed : Coded Completed
coded_completed = code_by (ℕ × (RecordKind × List CType)) (coded× coded_ℕ (coded× coded_kind (coded_list coded_type)))
    (λ c. (c.place, (c.kind, c.members))) (λ p. record { place = p.0; kind = p.1.0; members = p.1.1 }) (λ _. refl)

abbrev pub coded_records : Coded Records
coded_records = code_by (List RecordKind × List Completed) (coded× (coded_list coded_kind) (coded_list coded_completed))
    (λ t. (t.declared, t.done)) (λ p. record { declared = p.0; done = p.1 }) (λ _. refl)
