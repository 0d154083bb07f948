-- The operators of C on words, in whole-number arithmetic (C11 6.5 and 6.3.1.3). A word of width w is its bits a, a number below 2 ^ w; where its type is signed it means `signed_value w a`.
-- Each definition is total. A quotient and a remainder by 0, and a shift by the width or more, are 0. Where the result doesn't fit the type, what is left of it modulo 2 ^ w is its value.
use Rattle.std.specs.Prelude.{ℕ, ◌+◌, ◌-◌, ◌*◌, ◌/◌, ◌%◌, ◌^◌, ℤ, pos, negsuc, ◌+ℤ◌, ◌-ℤ◌, ◌*ℤ◌, Bool, ◌&&◌, nat_lt, int_lt, int_le, int_div, int_rem, ◌==◌, if◌then◌else◌}
use Rattle.std.specs.Int.{int_shr}
use Rattle.words.specs.BitVector.{signed_value}

-- ---- whole numbers at a width

-- a whole number modulo 2 ^ w, from 0 to 2 ^ w - 1 (C11 6.3.1.3p2)
unfoldable pub wrapped : ℕ → ℤ → ℕ
wrapped w (pos n) = n % 2 ^ w
wrapped w (negsuc n) = 2 ^ w - 1 - n % 2 ^ w

-- a whole number is from -2 ^ (w - 1) to 2 ^ (w - 1) - 1; `negsuc n` is -(n + 1)
unfoldable pub fits_width : ℕ → ℤ → Bool
fits_width w (pos n) = nat_lt n (2 ^ (w - 1))
fits_width w (negsuc n) = nat_lt n (2 ^ (w - 1))

-- ---- operators of which the sign makes no difference

-- C11 6.5.6p5
unfoldable pub word_sum : ℕ → ℕ → ℕ → ℕ
word_sum w a b = (a + b) % 2 ^ w

-- C11 6.5.6p6
unfoldable pub word_difference : ℕ → ℕ → ℕ → ℕ
word_difference w a b = (a + 2 ^ w - b) % 2 ^ w

-- C11 6.5.5p4
unfoldable pub word_product : ℕ → ℕ → ℕ → ℕ
word_product w a b = (a * b) % 2 ^ w

-- C11 6.5.3.3p3
unfoldable pub word_negation : ℕ → ℕ → ℕ
word_negation w a = (2 ^ w - a) % 2 ^ w

-- C11 6.5.3.3p4
unfoldable pub word_complement : ℕ → ℕ → ℕ
word_complement w a = 2 ^ w - 1 - a

-- C11 6.5.7p4
unfoldable pub left_shift : ℕ → ℕ → ℕ → ℕ
left_shift w a k = (a * 2 ^ k) % 2 ^ w

-- the w low bits (C11 6.3.1.3p2)
unfoldable pub low_bits : ℕ → ℕ → ℕ
low_bits w a = a % 2 ^ w

-- ---- unsigned operators

-- C11 6.5.5p5
unfoldable pub unsigned_quotient : ℕ → ℕ → ℕ
unsigned_quotient a b = a / b

-- C11 6.5.5p5
unfoldable pub unsigned_remainder : ℕ → ℕ → ℕ
unsigned_remainder a b = if b == 0 then 0 else (a % b)

-- C11 6.5.7p5
unfoldable pub logical_shift : ℕ → ℕ → ℕ
logical_shift a k = a / 2 ^ k

-- ---- signed operators

-- rounded toward zero (C11 6.5.5p6)
unfoldable pub signed_quotient : ℕ → ℕ → ℕ → ℕ
signed_quotient w a b = wrapped w (int_div (signed_value w a) (signed_value w b))

-- with the sign of the dividend (C11 6.5.5p6)
unfoldable pub signed_remainder : ℕ → ℕ → ℕ → ℕ
signed_remainder w a b = if b == 0 then 0 else wrapped w (int_rem (signed_value w a) (signed_value w b))

-- the quotient by 2 ^ k rounded down, so copies of the sign bit come in (C11 6.5.7p5)
unfoldable pub arithmetic_shift : ℕ → ℕ → ℕ → ℕ
arithmetic_shift w a k = if nat_lt k w then wrapped w (int_shr (signed_value w a) k) else 0

-- the same number at another width (C11 6.3.1.3p1)
unfoldable pub sign_extension : ℕ → ℕ → ℕ → ℕ
sign_extension from to a = wrapped to (signed_value from a)

-- C11 6.5.8p6
unfoldable pub signed_lt : ℕ → ℕ → ℕ → Bool
signed_lt w a b = int_lt (signed_value w a) (signed_value w b)

-- ---- whether a signed result is in the range of its type (C11 6.5p5)

unfoldable pub sum_fits : ℕ → ℕ → ℕ → Bool
sum_fits w a b = fits_width w (signed_value w a +ℤ signed_value w b)

unfoldable pub difference_fits : ℕ → ℕ → ℕ → Bool
difference_fits w a b = fits_width w (signed_value w a -ℤ signed_value w b)

unfoldable pub product_fits : ℕ → ℕ → ℕ → Bool
product_fits w a b = fits_width w (signed_value w a *ℤ signed_value w b)

-- the operand isn't negative and the product by 2 ^ k is in range (C11 6.5.7p4)
unfoldable pub left_shift_fits : ℕ → ℕ → ℕ → Bool
left_shift_fits w a k = int_le (pos 0) (signed_value w a) && fits_width w (signed_value w a *ℤ pos (2 ^ k))
