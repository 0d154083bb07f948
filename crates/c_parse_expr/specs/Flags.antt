-- How a type name is found: a map from names to flags, and beside each declaration the flag that it hides.
use Rattle.std.specs.Prelude.{ℕ, List, [], ◌∷◌, Bool, reverse, map, Option, Some, None, Vec, nat_eq, if◌then◌else◌}
use Rattle.std.specs.Option.{option_and_then}
use Rattle.std.specs.Map.{lookup}
use Rattle.std.specs.Str.{bytes_eq}
use Rattle.std.specs.Cmp.Lexicographic.{pointwise}
use Rattle.std.specs.Global.{Global}
use Rattle.c_parse_expr.specs.declared.names.Entry.{Entry}
use Rattle.c_tree.specs.Names.{Scope}

-- declarations stand in memory in their order
abbrev pub scope_of : List Entry → Scope
scope_of entries = map (λ e. (e.name.items, e.is_type)) entries

abbrev pub scope_in : List Entry → Scope
scope_in entries = scope_of (reverse entries)

-- whether the newest declaration of a name is that of a type
abbrev pub flag_in : Scope → List ℕ → Option Bool
flag_in [] name = None
flag_in (entry ∷ names) name = if bytes_eq name entry.0 then Some entry.1 else flag_in names name

-- the flag that each declaration hides
abbrev pub hidden_in : Scope → List (Option Bool)
hidden_in [] = []
hidden_in (entry ∷ names) = flag_in names entry.0 ∷ hidden_in names

abbrev pub hidden_of : List Entry → List (Option Bool)
hidden_of entries = map (λ e. e.hidden) (reverse entries)

-- what a map has for a name
abbrev pub flag_at : List (Vec ℕ Global × Option Bool) → List ℕ → Option Bool
flag_at entries name = option_and_then (λ p. p) (lookup (λ k. pointwise nat_eq name k.items) entries)
