-- What a byte can be in a text (C11 5.2.1, 6.4).
use Rattle.std.specs.Prelude.{ℕ, Bool, true, false, ◌==◌, ◌||◌, ◌&&◌, nat_le, if◌then◌else◌}
use Rattle.std.specs.Char.{is_ascii_digit, is_ascii_alphabetic}
use Rattle.c_lexer.specs.declared.class.Class.{Class}
use Rattle.c_lexer.specs.declared.class.Class.TheVariants.{Letter, Digit, Quote, Space, Other}

-- letters and `_`; digits; `"` and `'`; space, tab, newline, vertical tab, form feed and carriage return
unfoldable pub class_of : ℕ → Class
class_of b =
    if is_ascii_alphabetic b || b == 95 then Letter
    else (if is_ascii_digit b then Digit
    else (if b == 34 || b == 39 then Quote
    else (if b == 32 || (nat_le 9 b && nat_le b 13) then Space
    else Other)))

abbrev pub letter_class : Class → Bool
letter_class Letter = true
letter_class Digit = false
letter_class Quote = false
letter_class Space = false
letter_class Other = false

abbrev pub digit_class : Class → Bool
digit_class Letter = false
digit_class Digit = true
digit_class Quote = false
digit_class Space = false
digit_class Other = false

abbrev pub quote_class : Class → Bool
quote_class Letter = false
quote_class Digit = false
quote_class Quote = true
quote_class Space = false
quote_class Other = false

abbrev pub space_class : Class → Bool
space_class Letter = false
space_class Digit = false
space_class Quote = false
space_class Space = true
space_class Other = false

abbrev pub is_letter : ℕ → Bool
is_letter b = letter_class (class_of b)

abbrev pub is_digit : ℕ → Bool
is_digit b = digit_class (class_of b)

abbrev pub is_quote : ℕ → Bool
is_quote b = quote_class (class_of b)

abbrev pub is_space : ℕ → Bool
is_space b = space_class (class_of b)

-- a letter, `_` or a digit
abbrev pub is_word_byte : ℕ → Bool
is_word_byte b = is_letter b || is_digit b
