-- Numbers as lists of bits and of literals, the lowest bit first.
use Rattle.std.specs.Prelude.{ℕ, ◌+◌, ◌*◌, Bool, List, [], ◌∷◌, map, if◌then◌else◌}
use Rattle.sat_form.specs.Satisfaction.{Literal, literal_value}

-- 1 for true and 0 for false
abbrev pub bit_value : Bool → ℕ
bit_value b = if b then 1 else 0

-- the number with these bits, the lowest first
abbrev pub number_of : List Bool → ℕ
number_of [] = 0
number_of (b ∷ bits) = bit_value b + 2 * number_of bits

-- the number whose bits are the values of these literals, the lowest first
abbrev pub value_of : List Literal → (ℕ → Bool) → ℕ
value_of literals a = number_of (map (literal_value a) literals)
