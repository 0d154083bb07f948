-- The options of the command.
use Rattle.std.specs.Prelude.{ℕ, List, [], ◌∷◌, Option, Some, None, if◌then◌else◌, codes}
use Rattle.std.specs.Str.{bytes_eq}

-- an option with a value, or one that stands alone
pub data Kind : Type 0 where
  valued : Kind
  flag : Kind

abbrev pub table : List (List ℕ × Kind)
table =
    (codes "unwind", valued) ∷
    (codes "unwindset", valued) ∷
    (codes "no-unwinding-assertions", flag) ∷
    (codes "malloc-limit", valued) ∷
    (codes "malloc-may-fail", flag) ∷
    (codes "budget", valued) ∷
    (codes "show-properties", flag) ∷
    (codes "generate", valued) ∷ []

abbrev pub kind_in : List (List ℕ × Kind) → List ℕ → Option Kind
kind_in [] name = None
kind_in ((own, kind) ∷ rest) name = if bytes_eq own name then Some kind else kind_in rest name

abbrev pub kind_of_option : List ℕ → Option Kind
kind_of_option name = kind_in table name
