-- The bytes that strings stand for (C11 6.4.5).
use Rattle.std.specs.Prelude.{ℕ, ◌++◌, ◌%◌, List, [], ◌∷◌, map, Option, Some, None}
use Rattle.c_lexer.specs.Literals.{string_bytes}

-- those of one string, of 8 bits each; a token of a string always has some
abbrev pub text_bytes : Option (List ℕ) → List ℕ
text_bytes None = []
text_bytes (Some bytes) = map (λ b. b % 256) bytes

-- those of strings in a row, without the zero behind them
abbrev pub bytes_of : List (List ℕ) → List ℕ
bytes_of [] = []
bytes_of (part ∷ parts) = text_bytes (string_bytes part) ++ bytes_of parts
