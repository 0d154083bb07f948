-- The names of files.
use Rattle.std.specs.Prelude.{ℕ, Bool, true, not, ◌&&◌, ◌==◌, nat_le, List, [], ◌∷◌}

-- a byte that a file's name may have: none of a control character
abbrev pub is_name_byte : ℕ → Bool
is_name_byte c = nat_le 32 c && not (c == 127)

abbrev pub all_name_bytes : List ℕ → Bool
all_name_bytes [] = true
all_name_bytes (c ∷ cs) = is_name_byte c && all_name_bytes cs
