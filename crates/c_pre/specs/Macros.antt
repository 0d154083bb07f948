-- Macros without parameters, and how text is replaced by them (C11 6.10.3, 6.10.3.4).
use Rattle.std.specs.Prelude.{◌≡◌, ℕ, ◌+◌, List, [], ◌∷◌, ◌++◌, Bool, true, false, ◌==◌, ◌&&◌, not, Option, Some, None, codes, if◌then◌else◌}
use Rattle.std.specs.List.{list_any}
use Rattle.std.specs.Str.{bytes_eq}
use Rattle.c_token.specs.declared.token.Kind.{Kind}
use Rattle.c_token.specs.declared.token.Kind.TheVariants as kinds
use Rattle.c_token.specs.declared.token.Token.{Token}
use Rattle.c_token.specs.Spelling.{text_of}

-- What replaces each name that is a macro's.
abbrev pub Macros : Type 0
Macros = List ℕ → Option (List Token)

abbrev pub no_macros : Macros
no_macros name = None

-- the macros, but for one name
abbrev pub with_body : List ℕ → Option (List Token) → Macros → Macros
with_body changed body macros name = if bytes_eq name changed then body else macros name

-- a name can be a macro's; so can a keyword, which is one only once the directives are carried out
abbrev pub is_name : Kind → Bool
is_name kinds.Identifier = true
is_name (kinds.Keyword k) = true
is_name (kinds.Constant c) = false
is_name (kinds.Character c) = false
is_name kinds.String = false
is_name (kinds.Mark m) = false

-- `defined` is never a macro's name (6.10.8p4)
abbrev pub is_definable : List ℕ → Token → Bool
is_definable bytes t = is_name t.kind && not (bytes_eq (text_of bytes t) (codes "defined"))

-- a `(` directly behind a token, which would begin a macro's parameters
abbrev pub has_parameters : List ℕ → Token → List Token → Bool
has_parameters bytes t [] = false
has_parameters bytes t (u ∷ us) = (u.start == t.start + t.length) && bytes_eq (text_of bytes u) (codes "(")

-- both are the same tokens, by their spelling
abbrev pub same_spelling : List ℕ → List Token → List Token → Bool
same_spelling bytes [] [] = true
same_spelling bytes [] (u ∷ us) = false
same_spelling bytes (t ∷ ts) [] = false
same_spelling bytes (t ∷ ts) (u ∷ us) = bytes_eq (text_of bytes t) (text_of bytes u) && same_spelling bytes ts us

-- a name gets a body, unless it has another one
abbrev pub redefined : List ℕ → List ℕ → List Token → Macros → Option (List Token) → Option Macros
redefined bytes name body macros None = Some (with_body name (Some body) macros)
redefined bytes name body macros (Some old) = if same_spelling bytes old body then Some macros else None

-- The macros behind a definition, a name and what replaces it, if it is one.
abbrev pub defined : List ℕ → List Token → Macros → Option Macros
defined bytes [] macros = None
defined bytes (t ∷ ts) macros =
    if is_definable bytes t && not (has_parameters bytes t ts) then redefined bytes (text_of bytes t) ts macros (macros (text_of bytes t)) else None

-- the macros without a name that stands alone
abbrev pub undefined : List ℕ → List Token → Macros → Option Macros
undefined bytes [] macros = None
undefined bytes (t ∷ []) macros = if is_definable bytes t then Some (with_body (text_of bytes t) None macros) else None
undefined bytes (t ∷ u ∷ us) macros = None

-- a name that stands alone
abbrev pub name_alone : List ℕ → List Token → Option (List ℕ)
name_alone bytes [] = None
name_alone bytes (t ∷ []) = if is_name t.kind then Some (text_of bytes t) else None
name_alone bytes (t ∷ u ∷ us) = None

-- what replaces a name, unless it is one of those that are being replaced
abbrev pub body_for : Macros → List (List ℕ) → List ℕ → Option (List Token)
body_for macros within name = if list_any (bytes_eq name) within then None else macros name

-- a token of a macro's body has the line of the macro's name in the text
abbrev pub placed : Option ℕ → Token → Token
placed None t = t
placed (Some line) t = record { kind = t.kind; line = line; first = t.first; start = t.start; length = t.length }

-- How tokens are replaced: the next one stays, or is replaced by a body whose tokens are replaced in their turn.
pub data Replacing : Type 0 where
  done : Replacing
  stays : (behind : Replacing) → Replacing
  replaced : (inside behind : Replacing) → Replacing

-- Tokens, within the bodies of these macros, whose names stay, become found. line is that of the outermost macro's name,
-- if they are a macro's.
abbrev pub Becomes : List ℕ → Macros → List (List ℕ) → Option ℕ → Replacing → List Token → List Token → Type 0
Becomes bytes macros within line done [] found = found ≡ []
Becomes bytes macros within line done (t ∷ ts) found = ⊥
Becomes bytes macros within line (stays behind) [] found = ⊥
Becomes bytes macros within line (stays behind) (t ∷ ts) found =
    (body_for macros within (text_of bytes t) ≡ None)
    × ((more : List Token) × Becomes bytes macros within line behind ts more × (found ≡ placed line t ∷ more))
Becomes bytes macros within line (replaced inside behind) [] found = ⊥
Becomes bytes macros within line (replaced inside behind) (t ∷ ts) found =
    (body : List Token) × (body_for macros within (text_of bytes t) ≡ Some body)
    × ((front : List Token) × (more : List Token)
    × Becomes bytes macros (text_of bytes t ∷ within) (Some (placed line t).line) inside body front
    × Becomes bytes macros within line behind ts more
    × (found ≡ front ++ more))

-- Tokens become found, whatever the way.
abbrev pub IsReplacedBy : List ℕ → Macros → List (List ℕ) → Option ℕ → List Token → List Token → Type 0
IsReplacedBy bytes macros within line tokens found = (how : Replacing) × Becomes bytes macros within line how tokens found
