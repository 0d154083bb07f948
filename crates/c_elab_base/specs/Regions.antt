-- The scopes of a file in which declarations stand (C11 6.2.1p4).
use Rattle.std.specs.Prelude.{◌-◌, ℕ, Bool, true, false, List, length, take, Option, Some, None, if◌then◌else◌}
use Rattle.c_scope.specs.declared.meaning.Meaning.{Meaning}
use Rattle.c_scope.specs.declared.meaning.Meaning.TheVariants.{Variable, Object, Incomplete, Assert, Assume, Draw, BuiltIn, Function, Typedef, Enumerator, Record, Enumeration}
use Rattle.c_scope.specs.Scopes.{Environment, Scoped, built_in, meaning_of, tag_of, declares}
use Rattle.c_elab_base.specs.declared.regions.Region.{Region}

-- what is declared in this scope so far
abbrev pub own : Region → Scoped → Environment
own r s = take (length s.bindings - r.outer) s.bindings

-- what a built-in function means
abbrev pub is_built_in_function : Meaning → Bool
is_built_in_function (Variable v) = false
is_built_in_function (Object k) = false
is_built_in_function Incomplete = false
is_built_in_function Assert = true
is_built_in_function Assume = true
is_built_in_function (Draw t) = true
is_built_in_function (BuiltIn b) = true
is_built_in_function (Function f) = false
is_built_in_function (Typedef n) = false
is_built_in_function (Enumerator bits) = false
is_built_in_function (Record p) = false
is_built_in_function Enumeration = false

abbrev pub built_in_only : Option Meaning → Option Meaning
built_in_only None = None
built_in_only (Some m) = if is_built_in_function m then Some m else None

-- the built-in function of this name
abbrev pub built_in_function : List ℕ → Option Meaning
built_in_function name = built_in_only (built_in name)

-- what a name is declared as in this scope already; outside of functions the built-in functions are declared too, but a built-in type is hidden by what the file declares
abbrev pub earlier : Region → Scoped → List ℕ → Option Meaning
earlier r s name =
    if declares false (own r s) name then meaning_of s.bindings name
    else if r.is_file then built_in_function name
    else None

-- what a tag is declared as in this scope already
abbrev pub earlier_tag : Region → Scoped → List ℕ → Option Meaning
earlier_tag r s name = if declares true (own r s) name then tag_of s.bindings name else None
