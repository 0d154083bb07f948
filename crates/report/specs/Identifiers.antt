-- Identifiers (C11 6.4.2.1).
use Rattle.std.specs.Prelude.{ℕ, Bool, true, false, ◌==◌, ◌||◌, ◌&&◌, nat_le, List, [], ◌∷◌}

-- a letter or `_`
abbrev pub is_letter : ℕ → Bool
is_letter c = (nat_le 97 c && nat_le c 122) || (nat_le 65 c && nat_le c 90) || (c == 95)

abbrev pub is_digit : ℕ → Bool
is_digit c = nat_le 48 c && nat_le c 57

abbrev pub is_word_byte : ℕ → Bool
is_word_byte c = is_letter c || is_digit c

abbrev pub all_word_bytes : List ℕ → Bool
all_word_bytes [] = true
all_word_bytes (c ∷ cs) = is_word_byte c && all_word_bytes cs

abbrev pub is_identifier : List ℕ → Bool
is_identifier [] = false
is_identifier (c ∷ cs) = is_letter c && all_word_bytes cs
