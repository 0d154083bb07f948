-- The names of the members of a struct or union.
use Rattle.std.specs.Prelude.{ℕ, Bool, List, [], ◌∷◌, ◌++◌, if◌then◌else◌}
use Rattle.std.specs.List.{list_any}
use Rattle.std.specs.Str.{bytes_eq}

abbrev pub among : List (List ℕ) → List ℕ → Bool
among names name = list_any (λ n. bytes_eq name n) names

abbrev pub with_name : List (List ℕ) → List ℕ → List (List ℕ)
with_name names name = if among names name then names else names ++ name ∷ []
