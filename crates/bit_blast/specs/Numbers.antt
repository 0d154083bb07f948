-- Lists of literals, and the numbers that they give.
use Rattle.std.specs.Prelude.{ℕ, Bool, List, [], map, length, slice_index_or}
use Rattle.sat_form.specs.Satisfaction.{Literal}
use Rattle.sat_form.specs.Numbers.{value_of}

-- the list with this number; no literals where there is none
abbrev pub literals_at : List (List Literal) → ℕ → List Literal
literals_at lists k = slice_index_or lists k []

-- the numbers that lists of literals give
abbrev pub numbers_of : List (List Literal) → (ℕ → Bool) → List ℕ
numbers_of lists x = map (λ ls. value_of ls x) lists

-- the valuation that an assignment means: each variable of the graph is the number of its literals
abbrev pub lifted : List (List Literal) → (ℕ → Bool) → ℕ → ℕ
lifted variables x k = value_of (literals_at variables k) x

-- how many literals each list has
abbrev pub counts_of : List (List Literal) → List ℕ
counts_of lists = map (λ ls. length ls) lists
