-- The lines of a file's tokens, and the directives among them (C11 6.10p2).
use Rattle.std.specs.Prelude.{ℕ, List, [], ◌∷◌, Bool, true, false, ◌&&◌, drop, codes, if◌then◌else◌}
use Rattle.std.specs.Str.{bytes_eq}
use Rattle.c_token.specs.declared.token.Token.{Token}
use Rattle.c_token.specs.Spelling.{text_of}
use Rattle.c_pre.specs.declared.directive.Directive.{Directive}
use Rattle.c_pre.specs.declared.directive.Directive.TheVariants as directives

-- a line begins here
abbrev pub begins_line : List Token → Bool
begins_line [] = false
begins_line (t ∷ ts) = t.first

-- a token in front of lines: at the front of the first of them, or a line of its own where another line begins behind it
abbrev pub put : Token → Bool → List (List Token) → List (List Token)
put t true lines = (t ∷ []) ∷ lines
put t false [] = (t ∷ []) ∷ []
put t false (line ∷ lines) = (t ∷ line) ∷ lines

-- The lines of tokens. A line ends before a token that is first on its line, and at the end.
abbrev pub lines : List Token → List (List Token)
lines [] = []
lines (t ∷ ts) = put t (begins_line ts) (lines ts)

-- the directive that a word names
unfoldable pub named : List ℕ → Directive
named word =
    if bytes_eq word (codes "pragma") then directives.Nothing
    else (if bytes_eq word (codes "define") then directives.Define
    else (if bytes_eq word (codes "undef") then directives.Undefine
    else (if bytes_eq word (codes "ifdef") then directives.Ifdef
    else (if bytes_eq word (codes "ifndef") then directives.Ifndef
    else (if bytes_eq word (codes "else") then directives.Else
    else (if bytes_eq word (codes "endif") then directives.Endif
    else (if bytes_eq word (codes "include") then directives.Include
    else directives.Other)))))))

-- the directive by what stands behind its `#` on the line
abbrev pub behind_hash : List ℕ → List Token → Directive
behind_hash bytes [] = directives.Nothing
behind_hash bytes (t ∷ ts) = named (text_of bytes t)

-- what a line is: text, or the directive that its `#` begins
abbrev pub directive_of : List ℕ → List Token → Directive
directive_of bytes [] = directives.Text
directive_of bytes (t ∷ ts) = if t.first && bytes_eq (text_of bytes t) (codes "#") then behind_hash bytes ts else directives.Text

-- what stands behind the word of a directive
abbrev pub arguments : List Token → List Token
arguments line = drop 2 line

-- the line of a line's first token
abbrev pub number_of : List Token → ℕ
number_of [] = 0
number_of (t ∷ ts) = t.line
