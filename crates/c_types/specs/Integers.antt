-- The integer types with the sizes of LP64: widths, signs, ranks, promotions and usual arithmetic conversions (C11 6.2.5, 6.3.1.1, 6.3.1.8).
use Rattle.std.specs.Prelude.{ℕ, ◌==◌, Bool, true, false, nat_lt, nat_le, if◌then◌else◌}
use Rattle.c_types.specs.declared.integers.IntegerType.{IntegerType}
use Rattle.c_types.specs.declared.integers.IntegerType.TheVariants.{Char, SignedChar, UnsignedChar, Short, UnsignedShort, Int, UnsignedInt, Long, UnsignedLong, LongLong, UnsignedLongLong}
use Rattle.c_types.specs.declared.integers.IntegerType.TheVariants as types
use Rattle.c_types.specs.declared.types.ValueType.{ValueType}
use Rattle.c_types.specs.declared.types.ValueType.TheVariants.{Void, Integer}

-- the bits of an object of the type (System V ABI for AMD64, figure 3.1)
abbrev pub width : IntegerType → ℕ
width types.Bool = 8
width Char = 8
width SignedChar = 8
width UnsignedChar = 8
width Short = 16
width UnsignedShort = 16
width Int = 32
width UnsignedInt = 32
width Long = 64
width UnsignedLong = 64
width LongLong = 64
width UnsignedLongLong = 64

abbrev pub is_signed : IntegerType → Bool
is_signed types.Bool = false
is_signed Char = true
is_signed SignedChar = true
is_signed UnsignedChar = false
is_signed Short = true
is_signed UnsignedShort = false
is_signed Int = true
is_signed UnsignedInt = false
is_signed Long = true
is_signed UnsignedLong = false
is_signed LongLong = true
is_signed UnsignedLongLong = false

-- the conversion rank (C11 6.3.1.1p1)
abbrev pub rank : IntegerType → ℕ
rank types.Bool = 0
rank Char = 1
rank SignedChar = 1
rank UnsignedChar = 1
rank Short = 2
rank UnsignedShort = 2
rank Int = 3
rank UnsignedInt = 3
rank Long = 4
rank UnsignedLong = 4
rank LongLong = 5
rank UnsignedLongLong = 5

-- the unsigned type of the same rank
abbrev pub unsigned_of : IntegerType → IntegerType
unsigned_of types.Bool = types.Bool
unsigned_of Char = UnsignedChar
unsigned_of SignedChar = UnsignedChar
unsigned_of UnsignedChar = UnsignedChar
unsigned_of Short = UnsignedShort
unsigned_of UnsignedShort = UnsignedShort
unsigned_of Int = UnsignedInt
unsigned_of UnsignedInt = UnsignedInt
unsigned_of Long = UnsignedLong
unsigned_of UnsignedLong = UnsignedLong
unsigned_of LongLong = UnsignedLongLong
unsigned_of UnsignedLongLong = UnsignedLongLong

-- the integer promotions: int holds each value of a type of lower rank (C11 6.3.1.1p2)
abbrev pub promoted : IntegerType → IntegerType
promoted t = if nat_lt (rank t) (rank Int) then Int else t

-- the common type of an unsigned and a signed type, both promoted
abbrev pub mixed_type : IntegerType → IntegerType → IntegerType
mixed_type u s = if nat_le (rank s) (rank u) then u else (if nat_lt (width u) (width s) then s else unsigned_of s)

-- the common type of two promoted types; the first says which of them are signed
abbrev pub common_by : Bool → Bool → IntegerType → IntegerType → IntegerType
common_by true true a b = if nat_lt (rank a) (rank b) then b else a
common_by false false a b = if nat_lt (rank a) (rank b) then b else a
common_by true false a b = mixed_type b a
common_by false true a b = mixed_type a b

-- the usual arithmetic conversions (C11 6.3.1.8p1)
abbrev pub common_type : IntegerType → IntegerType → IntegerType
common_type a b = common_by (is_signed (promoted a)) (is_signed (promoted b)) (promoted a) (promoted b)

-- ---- whether two types are one

abbrev pub number_of : IntegerType → ℕ
number_of types.Bool = 0
number_of Char = 1
number_of SignedChar = 2
number_of UnsignedChar = 3
number_of Short = 4
number_of UnsignedShort = 5
number_of Int = 6
number_of UnsignedInt = 7
number_of Long = 8
number_of UnsignedLong = 9
number_of LongLong = 10
number_of UnsignedLongLong = 11

abbrev pub same_integer : IntegerType → IntegerType → Bool
same_integer t u = number_of t == number_of u

abbrev pub same_type : ValueType → ValueType → Bool
same_type Void Void = true
same_type Void (Integer t) = false
same_type (Integer t) Void = false
same_type (Integer t) (Integer u) = same_integer t u

-- ---- sizes

-- the bytes of an object of the type, and its alignment (System V ABI for AMD64, figure 3.1)
abbrev pub bytes : IntegerType → ℕ
bytes types.Bool = 1
bytes Char = 1
bytes SignedChar = 1
bytes UnsignedChar = 1
bytes Short = 2
bytes UnsignedShort = 2
bytes Int = 4
bytes UnsignedInt = 4
bytes Long = 8
bytes UnsignedLong = 8
bytes LongLong = 8
bytes UnsignedLongLong = 8
