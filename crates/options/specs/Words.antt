-- What the words behind the program's name give: options, each at most once, and a FILE.
use Rattle.std.specs.Prelude.{◌≡◌, ℕ, Bool, false, ◌==◌, ◌++◌, List, [], ◌∷◌, Option, Some, None, if◌then◌else◌, is_some, codes}
use Rattle.std.specs.Str.{bytes_eq}
use Rattle.options.specs.Table.{valued, flag, kind_of_option}

-- an option or FILE with its text; that of an option that stands alone is `true`
pub record Given : Type 0 where
  pub name : List ℕ
  pub value : List ℕ

abbrev pub given : List ℕ → List ℕ → Given
given name value = record { name = name; value = value }

abbrev pub value_given : List ℕ → List Given → Option (List ℕ)
value_given name [] = None
value_given name (g ∷ gs) = if bytes_eq g.name name then Some g.value else value_given name gs

abbrev pub is_given : List ℕ → List Given → Bool
is_given name gs = is_some (value_given name gs)

-- a word that begins with `-` and isn't `-` alone
abbrev pub is_dashed : List ℕ → Bool
is_dashed [] = false
is_dashed (x ∷ []) = false
is_dashed (x ∷ y ∷ rest) = x == 45

abbrev pub dashes : List ℕ → List ℕ
dashes rest = 45 ∷ 45 ∷ rest

abbrev pub file_name : List ℕ
file_name = codes "FILE"

-- `Reads gs words all`: where these were given before, the words give all of these
pub data Reads : List Given → List (List ℕ) → List Given → Type 0 where
  end : (gs : List Given) → Reads gs [] gs
  -- `--name value`
  apart : (gs all : List Given) (name value : List ℕ) (words : List (List ℕ)) → kind_of_option name ≡ Some valued → is_dashed value ≡ false → is_given name gs ≡ false
      → Reads (gs ++ given name value ∷ []) words all → Reads gs (dashes name ∷ value ∷ words) all
  -- `--name=value`
  joined : (gs all : List Given) (name value : List ℕ) (words : List (List ℕ)) → kind_of_option name ≡ Some valued → is_given name gs ≡ false
      → Reads (gs ++ given name value ∷ []) words all → Reads gs (dashes (name ++ 61 ∷ value) ∷ words) all
  -- `--name`
  alone : (gs all : List Given) (name : List ℕ) (words : List (List ℕ)) → kind_of_option name ≡ Some flag → is_given name gs ≡ false
      → Reads (gs ++ given name (codes "true") ∷ []) words all → Reads gs (dashes name ∷ words) all
  file : (gs all : List Given) (word : List ℕ) (words : List (List ℕ)) → is_dashed word ≡ false → is_given file_name gs ≡ false
      → Reads (gs ++ given file_name word ∷ []) words all → Reads gs (word ∷ words) all
  -- `--` ends the options: nothing or a FILE stands behind it
  stop : (gs : List Given) → Reads gs (dashes [] ∷ []) gs
  stop_file : (gs : List Given) (word : List ℕ) → is_given file_name gs ≡ false
      → Reads gs (dashes [] ∷ word ∷ []) (gs ++ given file_name word ∷ [])
