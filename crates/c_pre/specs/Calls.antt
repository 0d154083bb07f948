-- What a file's tokens are expanded into.
use Rattle.std.specs.Prelude.{◌≡◌, ◌≢◌, ℕ, List, ◌++◌, map, length, Result, Ok, Err}
use Rattle.c_token.specs.declared.token.Token.{Token}
use Rattle.c_lexer.specs.Cutting.{IsCutInto}
use Rattle.c_lexer.specs.declared.tokens.Tokens.{Tokens}
use Rattle.c_pre.specs.declared.error.PreError.{PreError}
use Rattle.c_pre.specs.declared.error.PreError.TheVariants as errors
use Rattle.c_pre.specs.Lines.{lines}
use Rattle.c_pre.specs.Headers.{text, moved}
use Rattle.c_pre.specs.Carrying.{Setting, IsExpandedInto}

-- the text of the headers' macros stands behind the bytes, and these are its tokens
abbrev pub setting_of : List ℕ → List Token → Setting
setting_of bytes own = record { bytes = bytes ++ text; rows = lines (map (moved (length bytes)) own) }

-- The tokens, which lie in these bytes, are expanded into tokens, or an error.
pub record IsExpansion (bytes : List ℕ) (tokens : List Token) (found : Result (List Token) PreError) : Type 0 where
  pub own : List Token
  pub cut : IsCutInto text (Ok own)
  pub expanded : IsExpandedInto (setting_of bytes own) (lines tokens) found

-- What a function returned is what the expansion gives, unless memory ran out.
abbrev pub Gives : Result Tokens PreError → Result (List Token) PreError → Type 0
Gives (Ok t) found = found ≡ Ok t.tokens.items
Gives (Err e) found = e ≢ errors.Memory → found ≡ Err e
