-- What is read of a node behind its parts.
use Rattle.std.specs.Prelude.{ℕ, List, Option, Some}
use Rattle.c_token.specs.declared.token.Token.{Token}
use Rattle.c_token.specs.declared.token.Mark.TheVariants as marks
use Rattle.c_token.specs.Spelling.{text_of}
use Rattle.c_tree.specs.Tree.{TypePart, Tree, Declared, strings, parens, member}
use Rattle.c_parse_expr.specs.inner.Many.{◌>>=◌}
use Rattle.c_parse_expr.specs.inner.Reading.{Read, behind, strings_behind, identifier_at}

-- a string literal that a token spells, with those behind it
abbrev pub read_strings : List ℕ → Token → List Token → Read
read_strings bytes t ts = do
  x ← strings_behind bytes (text_of bytes t) ts
  Some (strings t.line x.0, x.1)

-- an expression in parentheses, and the one that closes them
abbrev pub read_parens : ℕ → Tree → List Token → Read
read_parens line inner ts = do
  rest ← behind marks.RightParenthesis ts
  Some (parens line inner, rest)

-- the name of a member
abbrev pub read_member : List ℕ → ℕ → Tree → List Token → Read
read_member bytes line left ts = do
  n ← identifier_at bytes ts
  Some (member line left n.0, n.1)

-- a bound, and the bracket that closes it
abbrev pub read_bound : ℕ → Tree → List Token → Option (Option ((ℕ × Option Tree) × Unit {0} × List Token))
read_bound line bound ts = do
  rest ← behind marks.RightBracket ts
  Some (Some ((line, Some bound), tt, rest))

-- a type name, and the parenthesis that closes it
abbrev pub read_type : List TypePart → Declared → List Token → Option ((List TypePart × Declared) × List Token)
read_type parts declared ts = do
  rest ← behind marks.RightParenthesis ts
  Some ((parts, declared), rest)

-- a tree before these tokens
abbrev pub read_as : Tree → List Token → Read
read_as t ts = Some (t, ts)

-- a declarator before these tokens
abbrev pub declared_as : Declared → List Token → Option (Declared × List Token)
declared_as d ts = Some (d, ts)
