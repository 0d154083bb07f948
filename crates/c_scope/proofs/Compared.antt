-- Types compared.
use Rattle.std.proofs.Common.{◌≡◌, ◌≤◌, ◌<◌, ◌+◌, ℕ, suc, [], ◌∷◌, get_or, Bool, true, false, List, length, map, drop, slice_index_or, refl, ap, sym, ◌∙◌, eq-eqb, arith}
use Rattle.std.proofs.lemmas.Bool.{eqb-true}
use Rattle.std.proofs.lemmas.List.{drop_more, drop_all}
use Rattle.std.specs.Prelude.{◌==◌, ◌&&◌, if◌then◌else◌}
use Rattle.c_types.specs.declared.integers.IntegerType.{IntegerType}
use Rattle.c_types.specs.declared.integers.IntegerType.TheVariants as types
use Rattle.c_types.specs.declared.types.Ty.{Ty}
use Rattle.c_types.specs.Integers.{number_of, same_integer}
use Rattle.c_types.specs.Types.{CType, void, integer, aggregate, array, pointer, function, view, views}
use Rattle.c_scope.specs.declared.functions.FunctionType.{FunctionType as CodeFunctionType}
use Rattle.c_scope.specs.Scopes.{FunctionType, view_function_type}
use Rattle.c_scope.specs.Functions.{same_ctype, same_flag, same_types, same_function, type_place}
use Rattle.c_scope.proofs.Variables.{both, and}

-- ---- types are one where their numbers are

abbrev type_at : ℕ → IntegerType
type_at n = get_or (types.Bool ∷ types.Char ∷ types.SignedChar ∷ types.UnsignedChar ∷ types.Short ∷ types.UnsignedShort ∷ types.Int ∷ types.UnsignedInt
    ∷ types.Long ∷ types.UnsignedLong ∷ types.LongLong ∷ types.UnsignedLongLong ∷ []) n types.Int

type_at_number : (t : IntegerType) → type_at (number_of t) ≡ t
type_at_number types.Bool = refl
type_at_number types.Char = refl
type_at_number types.SignedChar = refl
type_at_number types.UnsignedChar = refl
type_at_number types.Short = refl
type_at_number types.UnsignedShort = refl
type_at_number types.Int = refl
type_at_number types.UnsignedInt = refl
type_at_number types.Long = refl
type_at_number types.UnsignedLong = refl
type_at_number types.LongLong = refl
type_at_number types.UnsignedLongLong = refl

one_integer_type : (t u : IntegerType) → same_integer t u ≡ true → t ≡ u
one_integer_type t u e = sym (type_at_number t) ∙ ap type_at (eqb-true (number_of t) (number_of u) e) ∙ type_at_number u

same_integer_refl : (t : IntegerType) → same_integer t t ≡ true
same_integer_refl types.Bool = refl
same_integer_refl types.Char = refl
same_integer_refl types.SignedChar = refl
same_integer_refl types.UnsignedChar = refl
same_integer_refl types.Short = refl
same_integer_refl types.UnsignedShort = refl
same_integer_refl types.Int = refl
same_integer_refl types.UnsignedInt = refl
same_integer_refl types.Long = refl
same_integer_refl types.UnsignedLong = refl
same_integer_refl types.LongLong = refl
same_integer_refl types.UnsignedLongLong = refl

-- ---- types are one

same_flag_refl : (b : Bool) → same_flag b b ≡ true
same_flag_refl true = refl
same_flag_refl false = refl

one_flag : (b c : Bool) → same_flag b c ≡ true → b ≡ c
one_flag true true h = refl
one_flag true false h = let none : ⊥ = cc in absurd none
one_flag false true h = let none : ⊥ = cc in absurd none
one_flag false false h = refl

pub same_refl : (t : CType) → same_ctype t t ≡ true
same_refl void = refl
same_refl (integer t) = same_integer_refl t
same_refl (aggregate n) = eq-eqb n n refl
same_refl (array e k) = and (k == k) (same_ctype e e) (eq-eqb k k refl) (same_refl e)
same_refl (pointer t c) = and (same_flag c c) (same_ctype t t) (same_flag_refl c) (same_refl t)
same_refl (function n) = eq-eqb n n refl

pub one_ctype : (t u : CType) → same_ctype t u ≡ true → t ≡ u
one_ctype void void h = refl
one_ctype (integer t) (integer u) h = ap integer (one_integer_type t u h)
one_ctype (aggregate m) (aggregate n) h = ap aggregate (eqb-true m n h)
one_ctype (array e k) (array f l) h =
    let parts = both (k == l) (same_ctype e f) h in
    ap (λ (x : CType). array x k) (one_ctype e f parts.1) ∙ ap (array f) (eqb-true k l parts.0)
one_ctype (pointer t c) (pointer u d) h =
    let parts = both (same_flag c d) (same_ctype t u) h in
    ap (λ (x : CType). pointer x c) (one_ctype t u parts.1) ∙ ap (pointer u) (one_flag c d parts.0)
one_ctype (function m) (function n) h = ap function (eqb-true m n h)
one_ctype _ _ h = let none : ⊥ = cc in absurd none

-- a test that is true where types are one
pub test_of_types : (b : Bool) (t u : CType) → (b ≡ true → t ≡ u) → (t ≡ u → b ≡ true) → b ≡ same_ctype t u
test_of_types true t u h g = by (same_ctype t u) refl where
  by : (x : Bool) → same_ctype t u ≡ x → true ≡ x
  by true e = refl
  by false e = sym (ap (λ (v : CType). same_ctype t v) (sym (h refl)) ∙ same_refl t) ∙ e
test_of_types false t u h g = by (same_ctype t u) refl where
  by : (x : Bool) → same_ctype t u ≡ x → false ≡ x
  by true e = g (one_ctype t u e)
  by false e = refl

-- ---- lists of types

and_false : (b : Bool) → (b && false) ≡ false
and_false true = refl
and_false false = refl

pub other_count : (ts us : List Ty) → (length ts ≡ length us → ⊥) → same_types (views ts) (views us) ≡ false
other_count [] [] h = absurd (h refl)
other_count [] (u ∷ us) h = refl
other_count (t ∷ ts) [] h = refl
other_count (t ∷ ts) (u ∷ us) h = ap (λ (b : Bool). same_ctype (view t) (view u) && b) (other_count ts us (λ e. h (ap suc e))) ∙ and_false (same_ctype (view t) (view u))

-- ---- places of function types

place_rest : (gs : List CodeFunctionType) (i : ℕ) (x : CodeFunctionType) → i < length gs → x ≡ slice_index_or gs i x
    → map view_function_type (drop i gs) ≡ view_function_type x ∷ map view_function_type (drop (i + 1) gs)
place_rest gs i x lt is = ap (map view_function_type) (drop_more gs i x lt ∙ ap (λ (y : CodeFunctionType). y ∷ drop (i + 1) gs) (sym is))

-- one that is the same, one that isn't, and none
pub place_found : (gs : List CodeFunctionType) (f : FunctionType) (i : ℕ) (x : CodeFunctionType) → i < length gs → x ≡ slice_index_or gs i x
    → i + type_place (map view_function_type (drop i gs)) f ≡ type_place (map view_function_type gs) f → same_function (view_function_type x) f ≡ true
    → i ≡ type_place (map view_function_type gs) f
place_found gs f i x lt is whole same =
    let none : type_place (map view_function_type (drop i gs)) f ≡ 0 =
    ap (λ (hs : List FunctionType). type_place hs f) (place_rest gs i x lt is)
    ∙ ap (λ (b : Bool). if b then 0 else suc (type_place (map view_function_type (drop (i + 1) gs)) f)) same in
    omega (arith, none, whole)

pub place_more : (gs : List CodeFunctionType) (f : FunctionType) (i : ℕ) (x : CodeFunctionType) → i < length gs → x ≡ slice_index_or gs i x
    → i + type_place (map view_function_type (drop i gs)) f ≡ type_place (map view_function_type gs) f → same_function (view_function_type x) f ≡ false
    → (i + 1) + type_place (map view_function_type (drop (i + 1) gs)) f ≡ type_place (map view_function_type gs) f
place_more gs f i x lt is whole other =
    let more : type_place (map view_function_type (drop i gs)) f ≡ suc (type_place (map view_function_type (drop (i + 1) gs)) f) =
    ap (λ (hs : List FunctionType). type_place hs f) (place_rest gs i x lt is)
    ∙ ap (λ (b : Bool). if b then 0 else suc (type_place (map view_function_type (drop (i + 1) gs)) f)) other in
    omega (arith, more, whole)

pub place_none : (gs : List CodeFunctionType) (f : FunctionType) (i : ℕ) → length gs ≤ i
    → i + type_place (map view_function_type (drop i gs)) f ≡ type_place (map view_function_type gs) f → i ≡ type_place (map view_function_type gs) f
place_none gs f i le whole =
    let none : type_place (map view_function_type (drop i gs)) f ≡ 0 = ap (λ (hs : List CodeFunctionType). type_place (map view_function_type hs) f) (drop_all i gs le) in
    omega (arith, none, whole)
