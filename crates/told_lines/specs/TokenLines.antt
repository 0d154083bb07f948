-- The lines of tokens.
use Rattle.std.specs.Prelude.{ℕ, List, [], ◌∷◌}
use Rattle.c_token.specs.declared.token.Token.{Token}

-- each has the property
abbrev pub InTokens : (ℕ → Type 0) → List Token → Type 0
InTokens P [] = Unit {0}
InTokens P (t ∷ ts) = P t.line × InTokens P ts
