-- How a scope finds the innermost binding of a name or a tag: a map from names to places for each, and beside each binding the
-- place that it hides.
use Rattle.std.specs.Prelude.{ℕ, Bool, List, [], ◌∷◌, length, reverse, map, Option, Some, None, Vec, nat_eq, if◌then◌else◌}
use Rattle.std.specs.Option.{option_and_then}
use Rattle.std.specs.Map.{lookup}
use Rattle.std.specs.Cmp.Lexicographic.{pointwise}
use Rattle.std.specs.Global.{Global}
use Rattle.c_scope.specs.declared.places.Places.{Places}
use Rattle.c_scope.specs.declared.scope.Bound.{Bound}
use Rattle.c_scope.specs.Scopes.{binding, Environment, is_tag, is_called}

-- bindings stand in memory in the order of their declarations
abbrev pub bindings_of : List Bound → Environment
bindings_of bounds = map (λ b. binding b.name.items b.meaning) bounds

abbrev pub environment : List Bound → Environment
environment bounds = bindings_of (reverse bounds)

-- how many bindings stand below the innermost of a name or a tag
abbrev pub place_in : Bool → Environment → List ℕ → Option ℕ
place_in tags [] name = None
place_in tags (b ∷ bs) name = if is_called tags name b then Some (length bs) else place_in tags bs name

-- the place that each binding hides
abbrev pub hidden_in : Environment → List (Option ℕ)
hidden_in [] = []
hidden_in (b ∷ bs) = place_in (is_tag b.meaning) bs b.name ∷ hidden_in bs

abbrev pub hidden_of : List Bound → List (Option ℕ)
hidden_of bounds = map (λ b. b.hidden) (reverse bounds)

abbrev pub Entries : Type 0
Entries = List (Vec ℕ Global × Option ℕ)

-- the map of a name space
abbrev pub entries_of : Bool → Places → Entries
entries_of tags places = if tags then places.tags.entries else places.names.entries

-- what a map has for a name
abbrev pub place_at : Entries → List ℕ → Option ℕ
place_at entries name = option_and_then (λ p. p) (lookup (λ k. pointwise nat_eq name k.items) entries)
