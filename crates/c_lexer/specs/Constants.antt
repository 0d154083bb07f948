-- The value and the type of an integer constant (C11 6.4.4.1).
use Rattle.std.specs.Prelude.{ℕ, ◌+◌, ◌-◌, ◌*◌, ◌^◌, List, [], ◌∷◌, Bool, true, false, ◌==◌, ◌||◌, ◌&&◌, not, nat_le, nat_lt, if◌then◌else◌, length, take, drop, codes, Option, Some, None, option_map, fold, find, slice_index}
use Rattle.std.specs.List.{take_while}
use Rattle.std.specs.Option.{option_and_then}
use Rattle.std.specs.Str.{bytes_eq}
use Rattle.c_lexer.specs.Forms.{is_empty, begins}
use Rattle.c_token.specs.declared.token.Constant.{Constant}
use Rattle.c_token.specs.declared.token.ConstantType.{ConstantType}
use Rattle.c_token.specs.declared.token.ConstantType.TheVariants.{Int, UnsignedInt, Long, UnsignedLong, LongLong, UnsignedLongLong}
use Rattle.c_lexer.specs.declared.constant.Suffix.{Suffix}

-- the value of a digit of base 16, and 16 for a byte that isn't one
abbrev pub digit_value : ℕ → ℕ
digit_value b =
    if nat_le 48 b && nat_le b 57 then b - 48
    else (if nat_le 97 b && nat_le b 102 then b - 87
    else (if nat_le 65 b && nat_le b 70 then b - 55
    else 16))

abbrev pub is_digit_of : ℕ → ℕ → Bool
is_digit_of base b = nat_lt (digit_value b) base

-- the digits at the front of a text
unfoldable pub digits : ℕ → List ℕ → List ℕ
digits base text = take_while (is_digit_of base) text

-- the number that digits stand for
unfoldable pub number : ℕ → List ℕ → ℕ
number base ds = fold (λ n d. n * base + digit_value d) 0 ds

-- `0x` or `0X` begins base 16, another 0 base 8
abbrev pub base_of : List ℕ → ℕ
base_of [] = 10
base_of (a ∷ []) = if a == 48 then 8 else 10
base_of (a ∷ b ∷ bs) = if a == 48 then (if b == 120 || b == 88 then 16 else 8) else 10

abbrev pub behind_prefix : List ℕ → List ℕ
behind_prefix text = if base_of text == 16 then drop 2 text else text

abbrev pub is_u : ℕ → Bool
is_u b = b == 117 || b == 85

-- how many l's a suffix without u has
abbrev pub long_suffix : List ℕ → Option ℕ
long_suffix text =
    if is_empty text then Some 0
    else (if bytes_eq text (codes "l") || bytes_eq text (codes "L") then Some 1
    else (if bytes_eq text (codes "ll") || bytes_eq text (codes "LL") then Some 2
    else None))

abbrev pub suffix : Bool → ℕ → Suffix
suffix unsigned longs = record { unsigned = unsigned; longs = longs }

-- u before or behind none, one or two l's
unfoldable pub suffix_of : List ℕ → Option Suffix
suffix_of text =
    if begins is_u text then option_map (suffix true) (long_suffix (drop 1 text))
    else (if is_u (slice_index text (length text - 1)) then option_map (suffix true) (long_suffix (take (length text - 1) text))
    else option_map (suffix false) (long_suffix text))

-- int, long and long long have 32, 64 and 64 bits
abbrev pub limit_of : ConstantType → ℕ
limit_of Int = 2 ^ 31
limit_of UnsignedInt = 2 ^ 32
limit_of Long = 2 ^ 63
limit_of UnsignedLong = 2 ^ 64
limit_of LongLong = 2 ^ 63
limit_of UnsignedLongLong = 2 ^ 64

abbrev pub is_unsigned : ConstantType → Bool
is_unsigned Int = false
is_unsigned UnsignedInt = true
is_unsigned Long = false
is_unsigned UnsignedLong = true
is_unsigned LongLong = false
is_unsigned UnsignedLongLong = true

abbrev pub longs_of : ConstantType → ℕ
longs_of Int = 0
longs_of UnsignedInt = 0
longs_of Long = 1
longs_of UnsignedLong = 1
longs_of LongLong = 2
longs_of UnsignedLongLong = 2

-- the types of integer constants, in the order of C11 6.4.4.1
abbrev pub constant_types : List ConstantType
constant_types = Int ∷ UnsignedInt ∷ Long ∷ UnsignedLong ∷ LongLong ∷ UnsignedLongLong ∷ []

-- The type stands in the constant's list: the unsigned types with u, the signed ones in base 10 without u, all in another
-- base, from as many l's on as the suffix has. And it holds the value.
abbrev pub admits : ℕ → Suffix → ℕ → ConstantType → Bool
admits base suffix value type =
    nat_le suffix.longs (longs_of type)
    && (if suffix.unsigned then is_unsigned type else (not (base == 10) || not (is_unsigned type)))
    && nat_lt value (limit_of type)

-- the first type of the list that holds the value
unfoldable pub typed : ℕ → Suffix → ℕ → Option Constant
typed base suffix value =
    option_map (λ type. record { value = value; type_ = type }) (find (admits base suffix value) constant_types)

-- what the text of a number is as an integer constant
unfoldable pub constant_of : List ℕ → Option Constant
constant_of text =
    let base = base_of text in
    let body = behind_prefix text in
    let ds = digits base body in
    if is_empty ds then None
    else option_and_then (λ suffix. typed base suffix (number base ds)) (suffix_of (drop (length ds) body))
