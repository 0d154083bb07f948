-- Promoted types, and values in a type.
use Rattle.std.proofs.Common.{◌≡◌, ℕ, [], ◌∷◌, get_or, Bool, true, false, refl, ap, sym, ◌∙◌}
use Rattle.std.specs.Prelude.{◌&&◌, ◌||◌, nat_lt, nat_le, if◌then◌else◌}
use borrow.Author.Tests.{eqb-true}
use Rattle.c_types.specs.declared.integers.IntegerType.{IntegerType}
use Rattle.c_types.specs.declared.integers.IntegerType.TheVariants as types
use Rattle.c_types.specs.declared.types.ValueType.{ValueType}
use Rattle.c_types.specs.declared.types.ValueType.TheVariants.{Void, Integer}
use Rattle.c_types.specs.Integers.{rank, width, is_signed, number_of, promoted, unsigned_of, mixed_type, common_by, common_type, same_integer, same_type}
use Rattle.core_tree.specs.declared.operators.ArithmeticOperator.{ArithmeticOperator}
use Rattle.core_tree.specs.Trees.{Expression, convert}
use Rattle.core_tree.specs.Typed.{Sizes, type_of, is_integer, is_promoted, is_shift, are_operands, is_typed}
use Rattle.c_operands.specs.Nodes.{as_type, left_type, right_type}
use Rattle.c_scope.proofs.Variables.{and}

-- ---- types are one where their numbers are

abbrev type_at : ℕ → IntegerType
type_at n = get_or (types.Bool ∷ types.Char ∷ types.SignedChar ∷ types.UnsignedChar ∷ types.Short ∷ types.UnsignedShort ∷ types.Int ∷ types.UnsignedInt
    ∷ types.Long ∷ types.UnsignedLong ∷ types.LongLong ∷ types.UnsignedLongLong ∷ []) n types.Int

type_at_number : (t : IntegerType) → type_at (number_of t) ≡ t
type_at_number types.Bool = refl
type_at_number types.Char = refl
type_at_number types.SignedChar = refl
type_at_number types.UnsignedChar = refl
type_at_number types.Short = refl
type_at_number types.UnsignedShort = refl
type_at_number types.Int = refl
type_at_number types.UnsignedInt = refl
type_at_number types.Long = refl
type_at_number types.UnsignedLong = refl
type_at_number types.LongLong = refl
type_at_number types.UnsignedLongLong = refl

pub one_integer_type : (t u : IntegerType) → same_integer t u ≡ true → t ≡ u
one_integer_type t u e = sym (type_at_number t) ∙ ap type_at (eqb-true (number_of t) (number_of u) e) ∙ type_at_number u

pub one_type : (a : ValueType) (t : IntegerType) → same_type a (Integer t) ≡ true → a ≡ Integer t
one_type Void t e = let none : ⊥ = cc in absurd none
one_type (Integer u) t e = ap Integer (one_integer_type u t e)

pub same_integer_refl : (t : IntegerType) → same_integer t t ≡ true
same_integer_refl types.Bool = refl
same_integer_refl types.Char = refl
same_integer_refl types.SignedChar = refl
same_integer_refl types.UnsignedChar = refl
same_integer_refl types.Short = refl
same_integer_refl types.UnsignedShort = refl
same_integer_refl types.Int = refl
same_integer_refl types.UnsignedInt = refl
same_integer_refl types.Long = refl
same_integer_refl types.UnsignedLong = refl
same_integer_refl types.LongLong = refl
same_integer_refl types.UnsignedLongLong = refl

pub same_type_refl : (a : ValueType) → same_type a a ≡ true
same_type_refl Void = refl
same_type_refl (Integer t) = same_integer_refl t

-- ---- promoted types

abbrev Promoted : IntegerType → Type 0
Promoted t = is_promoted (Integer t) ≡ true

pub promoted_is : (t : IntegerType) → Promoted (promoted t)
promoted_is types.Bool = refl
promoted_is types.Char = refl
promoted_is types.SignedChar = refl
promoted_is types.UnsignedChar = refl
promoted_is types.Short = refl
promoted_is types.UnsignedShort = refl
promoted_is types.Int = refl
promoted_is types.UnsignedInt = refl
promoted_is types.Long = refl
promoted_is types.UnsignedLong = refl
promoted_is types.LongLong = refl
promoted_is types.UnsignedLongLong = refl

unsigned_promoted : (t : IntegerType) → Promoted (unsigned_of (promoted t))
unsigned_promoted types.Bool = refl
unsigned_promoted types.Char = refl
unsigned_promoted types.SignedChar = refl
unsigned_promoted types.UnsignedChar = refl
unsigned_promoted types.Short = refl
unsigned_promoted types.UnsignedShort = refl
unsigned_promoted types.Int = refl
unsigned_promoted types.UnsignedInt = refl
unsigned_promoted types.Long = refl
unsigned_promoted types.UnsignedLong = refl
unsigned_promoted types.LongLong = refl
unsigned_promoted types.UnsignedLongLong = refl

either : (c : Bool) (t u : IntegerType) → Promoted t → Promoted u → Promoted (if c then t else u)
either true t u p q = p
either false t u p q = q

mixed_promoted : (u s : IntegerType) → Promoted u → Promoted s → Promoted (unsigned_of s) → Promoted (mixed_type u s)
mixed_promoted u s p q r = either (nat_le (rank s) (rank u)) u (if nat_lt (width u) (width s) then s else unsigned_of s) p (either (nat_lt (width u) (width s)) s (unsigned_of s) q r)

by_signs : (m n : Bool) (a b : IntegerType) → Promoted a → Promoted b → Promoted (unsigned_of a) → Promoted (unsigned_of b) → Promoted (common_by m n a b)
by_signs true true a b p q r s = either (nat_lt (rank a) (rank b)) b a q p
by_signs false false a b p q r s = either (nat_lt (rank a) (rank b)) b a q p
by_signs true false a b p q r s = mixed_promoted b a q p r
by_signs false true a b p q r s = mixed_promoted a b p q s

pub common_promoted : (t u : IntegerType) → Promoted (common_type t u)
common_promoted t u = by_signs (is_signed (promoted t)) (is_signed (promoted u)) (promoted t) (promoted u) (promoted_is t) (promoted_is u) (unsigned_promoted t) (unsigned_promoted u)

-- the types in which an operator takes its operands are as it wants them
pub operands_fit : (op : ArithmeticOperator) (t u : IntegerType) → are_operands op (Integer (left_type op t u)) (Integer (right_type op t u)) ≡ true
operands_fit op t u = by_shift (is_shift op) where
  by_shift : (s : Bool) → (is_promoted (Integer (if s then promoted t else common_type t u)) && is_promoted (Integer (if s then promoted u else common_type t u))
      && (s || same_integer (if s then promoted t else common_type t u) (if s then promoted u else common_type t u))) ≡ true
  by_shift true = and _ _ (and _ _ (promoted_is t) (promoted_is u)) refl
  by_shift false = and _ _ (and _ _ (common_promoted t u) (common_promoted t u)) (same_integer_refl (common_type t u))

-- ---- a value in a type

pub type_as : (t : IntegerType) (e : Expression) → type_of (as_type t e) ≡ Integer t
type_as t e = by_same (same_type (type_of e) (Integer t)) refl where
  by_same : (s : Bool) → same_type (type_of e) (Integer t) ≡ s → type_of (if s then e else convert t e) ≡ Integer t
  by_same true same = one_type (type_of e) t same
  by_same false same = refl

pub typed_as : (sizes : Sizes) (t u : IntegerType) (e : Expression) → type_of e ≡ Integer u → is_typed sizes e ≡ true → is_typed sizes (as_type t e) ≡ true
typed_as sizes t u e is good = by_same (same_type (type_of e) (Integer t)) where
  by_same : (s : Bool) → is_typed sizes (if s then e else convert t e) ≡ true
  by_same true = good
  by_same false = and (is_integer (type_of e)) (is_typed sizes e) (ap is_integer is) good
