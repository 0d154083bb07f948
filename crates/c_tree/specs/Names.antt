-- Which names are those of types (C11 6.2.1, 6.7.8).
use Rattle.std.specs.Prelude.{ℕ, List, [], ◌∷◌, Bool, true, false, codes, if◌then◌else◌}
use Rattle.std.specs.Str.{bytes_eq}

-- Names that are declared, the newest first, each with whether it names a type.
abbrev pub Scope : Type 0
Scope = List (List ℕ × Bool)

-- The newest declaration of the name is a typedef.
abbrev pub is_type : Scope → List ℕ → Bool
is_type [] name = false
is_type (entry ∷ names) name = if bytes_eq name entry.0 then entry.1 else is_type names name

-- The types that are declared around each file.
abbrev pub built_in_names : Scope
built_in_names =
    (codes "size_t", true) ∷ (codes "uintptr_t", true) ∷ (codes "pthread_t", true) ∷ (codes "ptrdiff_t", true) ∷ (codes "intptr_t", true)
    ∷ (codes "int8_t", true) ∷ (codes "int16_t", true) ∷ (codes "int32_t", true) ∷ (codes "int64_t", true)
    ∷ (codes "uint8_t", true) ∷ (codes "uint16_t", true) ∷ (codes "uint32_t", true) ∷ (codes "uint64_t", true)
    ∷ (codes "pthread_mutex_t", true) ∷ []
