-- Reading an expression from left to right, with the levels that a tree may have.
use Rattle.std.specs.Prelude.{ℕ, zero, suc, ◌+◌, List, [], ◌∷◌, length, Bool, true, false, not, ◌&&◌, nat_le, nat_lt, if◌then◌else◌, Option, Some, None}
use Rattle.c_token.specs.declared.token.Token.{Token}
use Rattle.c_token.specs.declared.token.Kind.{Kind}
use Rattle.c_token.specs.declared.token.Kind.TheVariants as kinds
use Rattle.c_token.specs.declared.token.Mark.{Mark}
use Rattle.c_token.specs.declared.token.Mark.TheVariants as marks
use Rattle.c_token.specs.Spelling.{text_of}
use Rattle.c_tree.specs.Tree.{TypePart, qualified, word, tagged, typedef_name, Tree, Trees, Declared, Suffixes, constant, character, strings, name, parens, unary, cast, sizeof_expr, sizeof_type, step, member, binary, choice, assign, comma, call, none, more, unnamed, named, inside, no_suffix, bounded, unbounded, depth, declared_depth}
use Rattle.c_tree.specs.Tree.{view}
use Rattle.c_tree.specs.declared.expr.ArraySuffix.{ArraySuffix}
use Rattle.c_tree.specs.declared.expr.ArraySuffix as array_suffixes
use Rattle.c_tree.specs.Tables.{strength_of, operand_level, level_of}
use Rattle.c_tree.specs.Names.{Scope, is_type}
use Rattle.c_parse_expr.specs.declared.table.Lead.{Lead}
use Rattle.c_parse_expr.specs.declared.table.Lead.TheVariants as leads
use Rattle.c_parse_expr.specs.declared.table.Suffix.{Suffix}
use Rattle.c_parse_expr.specs.declared.table.Suffix.TheVariants as suffixes
use Rattle.c_parse_expr.specs.declared.table.TypeStart.{TypeStart}
use Rattle.c_parse_expr.specs.declared.table.TypeStart.TheVariants as starts
use Rattle.c_parse_expr.specs.declared.declarator_start.DeclaratorStart.{DeclaratorStart}
use Rattle.c_parse_expr.specs.declared.declarator_start.DeclaratorStart.TheVariants as declarator_starts
use Rattle.c_parse_expr.specs.Tables.{lead_of, suffix_of, keyword_start}
use Rattle.c_parse_expr.specs.Reading.{is_mark, goes_on}
use Rattle.c_parse_expr.specs.inner.Many.{◌>>=◌, Item, many_at}

-- a tree, and the tokens behind it
abbrev pub Read : Type 0
Read = Option (Tree × List Token)

-- reads a tree of at least a level
abbrev pub Reader : Type 0
Reader = ℕ → List Token → Read

abbrev pub is_identifier : Kind → Bool
is_identifier kinds.Identifier = true
is_identifier (kinds.Keyword k) = false
is_identifier (kinds.Constant c) = false
is_identifier (kinds.Character c) = false
is_identifier kinds.String = false
is_identifier (kinds.Mark m) = false

abbrev pub is_string : Kind → Bool
is_string kinds.Identifier = false
is_string (kinds.Keyword k) = false
is_string (kinds.Constant c) = false
is_string (kinds.Character c) = false
is_string kinds.String = true
is_string (kinds.Mark m) = false

-- the tokens behind a mark
unfoldable pub behind : Mark → List Token → Option (List Token)
behind mark [] = None
behind mark (t ∷ ts) = if is_mark mark t.kind then Some ts else None

-- the text of an identifier at the front, and the tokens behind it
unfoldable pub identifier_at : List ℕ → List Token → Option (List ℕ × List Token)
identifier_at bytes [] = None
identifier_at bytes (t ∷ ts) = if is_identifier t.kind then Some (text_of bytes t, ts) else None

-- the text of a string literal at the front, and the tokens behind it
unfoldable pub string : List ℕ → List Token → Option (List ℕ × List Token)
string bytes [] = None
string bytes (t ∷ ts) = if is_string t.kind then Some (text_of bytes t, ts) else None

abbrev pub quoted : Option (List ℕ × List Token) → Option (Option (List ℕ × Unit {0} × List Token))
quoted None = Some None
quoted (Some x) = Some (Some (x.0, tt, x.1))

-- a string literal at the front
abbrev pub string_at : List ℕ → Item (Unit {0}) (List ℕ)
string_at bytes s ts = quoted (string bytes ts)

-- the string literals at the front
abbrev pub strings_at : List ℕ → List Token → Option (List (List ℕ) × List Token)
strings_at bytes ts = many_at (string_at bytes) (length ts + 1) tt ts

-- string literals behind the first
unfoldable pub strings_behind : List ℕ → List ℕ → List Token → Option (List (List ℕ) × List Token)
strings_behind bytes first ts = do
  x ← strings_at bytes ts
  Some (first ∷ x.0, x.1)

-- the specifier of a type that a token of a kind begins; a name does where it is that of a type
abbrev pub start_by : Bool → Kind → Option TypeStart
start_by with_name kinds.Identifier = if with_name then Some starts.Name else None
start_by with_name (kinds.Keyword k) = keyword_start k
start_by with_name (kinds.Constant c) = None
start_by with_name (kinds.Character c) = None
start_by with_name kinds.String = None
start_by with_name (kinds.Mark m) = None

-- what a token begins among specifiers, where a type is specified before it or not
abbrev pub start_of : List ℕ → Scope → Bool → Token → Option TypeStart
start_of bytes names before t = start_by (not before && is_type names (text_of bytes t)) t.kind

abbrev pub is_some : {A : Type 0} → Option A → Bool
is_some None = false
is_some (Some x) = true

-- a type name begins
abbrev pub begins_type : List ℕ → Scope → List Token → Bool
begins_type bytes names [] = false
begins_type bytes names (t ∷ ts) = is_some (start_of bytes names false t)

abbrev pub started : List ℕ → Bool → Token → List Token → Option TypeStart → Option (Option (TypePart × Bool × List Token))
started bytes before t ts None = Some None
started bytes before t ts (Some (starts.Qualifier q)) = Some (Some (qualified t.line q, before, ts))
started bytes before t ts (Some (starts.Word w)) = Some (Some (word t.line w, true, ts))
started bytes before t ts (Some (starts.Tag kind)) = identifier_at bytes ts >>= λ x. Some (Some (tagged t.line kind x.0, true, x.1))
started bytes before t ts (Some starts.Name) = Some (Some (typedef_name t.line (text_of bytes t), true, ts))

-- one of the specifiers of a type at the front
unfoldable pub type_part_at : List ℕ → Scope → Item Bool TypePart
type_part_at bytes names before [] = Some None
type_part_at bytes names before (t ∷ ts) = started bytes before t ts (start_of bytes names before t)

-- the specifiers of a type at the front
abbrev pub type_parts_at : List ℕ → Scope → List Token → Option (List TypePart × List Token)
type_parts_at bytes names ts = many_at (type_part_at bytes names) (length ts + 1) false ts

abbrev pub kept : ℕ → ℕ → ℕ → List Token → Option Suffix → Option (Suffix × ℕ × List Token)
kept k l line ts None = None
kept k l line ts (Some s) = if goes_on k l s then Some (s, line, ts) else None

-- the suffix at the front that goes on, its line, and the tokens behind it
unfoldable pub next_at : ℕ → ℕ → List Token → Option (Suffix × ℕ × List Token)
next_at k l [] = None
next_at k l (t ∷ ts) = kept k l t.line ts (suffix_of t.kind)

abbrev pub closed : Option (List Token) → Option (Trees × List Token) → Option (Trees × List Token)
closed None others = others
closed (Some rest) others = Some (none, rest)

-- the arguments behind the first, and the parenthesis that closes them
unfoldable pub rest_at : ℕ → Reader → List Token → Option (Trees × List Token)
rest_at zero sub ts = None
rest_at (suc m) sub ts = closed (behind marks.RightParenthesis ts) (do
  rest ← behind marks.Comma ts
  a ← sub 2 rest
  b ← rest_at m sub a.1
  Some (more a.0 b.0, b.1))

unfoldable pub arguments_at : Reader → List Token → Option (Trees × List Token)
arguments_at sub ts = closed (behind marks.RightParenthesis ts) (do
  a ← sub 2 ts
  b ← rest_at (length ts + 1) sub a.1
  Some (more a.0 b.0, b.1))

-- a declarator, with a name or without, and the tokens behind it
abbrev pub DeclaredReader : Type 0
DeclaredReader = Bool → List Token → Option (Declared × List Token)

abbrev pub opened : ℕ → Option (List Token) → Option (Option ((ℕ × Option Tree) × Unit {0} × List Token)) → Option (Option ((ℕ × Option Tree) × Unit {0} × List Token))
opened line None others = others
opened line (Some rest) others = Some (Some ((line, None), tt, rest))

-- a suffix behind its bracket
unfoldable pub bound_at : Reader → ℕ → List Token → Option (Option ((ℕ × Option Tree) × Unit {0} × List Token))
bound_at sub line ts = opened line (behind marks.RightBracket ts) (do
  e ← sub 3 ts
  rest ← behind marks.RightBracket e.1
  Some (Some ((line, Some e.0), tt, rest)))

-- the line of a bracket at the front, and the tokens behind it
unfoldable pub bracket : List Token → Option (ℕ × List Token)
bracket [] = None
bracket (t ∷ ts) = if is_mark marks.LeftBracket t.kind then Some (t.line, ts) else None

abbrev pub bracketed : Reader → Option (ℕ × List Token) → Option (Option ((ℕ × Option Tree) × Unit {0} × List Token))
bracketed sub None = Some None
bracketed sub (Some x) = bound_at sub x.0 x.1

-- a suffix of an array at the front: its line, and its bound
abbrev pub bracket_at : Reader → Item (Unit {0}) (ℕ × Option Tree)
bracket_at sub s ts = bracketed sub (bracket ts)

abbrev pub pair_of : ArraySuffix → ℕ × Option Tree
pair_of (array_suffixes.Bounded' line p e) = (line, Some (view e))
pair_of (array_suffixes.Open line) = (line, None)

abbrev pub suffixes_from : List (ℕ × Option Tree) → Suffixes
suffixes_from [] = no_suffix
suffixes_from ((line, None) ∷ rest) = unbounded line (suffixes_from rest)
suffixes_from ((line, Some e) ∷ rest) = bounded line e (suffixes_from rest)

-- the suffixes of an array at the front
unfoldable pub suffixes_at : Reader → List Token → Option (Suffixes × List Token)
suffixes_at sub ts = do
  x ← many_at (bracket_at sub) (length ts + 1) tt ts
  Some (suffixes_from x.0, x.1)

-- what a declarator begins with, where it has a name or none
abbrev pub declarator_start_of : Bool → Kind → Option DeclaratorStart
declarator_start_of with_name k =
    if is_mark marks.LeftParenthesis k then Some declarator_starts.Inside
    else if with_name then (if is_identifier k then Some declarator_starts.Name else None)
    else if is_mark marks.LeftBracket k then Some declarator_starts.Suffixes else Some declarator_starts.Nothing

abbrev pub declarator_start_at : Bool → List Token → Option DeclaratorStart
declarator_start_at with_name [] = if with_name then None else Some declarator_starts.Nothing
declarator_start_at with_name (t ∷ ts) = declarator_start_of with_name t.kind

-- a declarator in parentheses behind its parenthesis
unfoldable pub inside_at : Reader → DeclaredReader → Bool → ℕ → List Token → Option (Declared × List Token)
inside_at sub inner with_name line ts = do
  d ← inner with_name ts
  rest ← behind marks.RightParenthesis d.1
  s ← (if nat_lt 0 (declared_depth d.0) then suffixes_at sub rest else None)
  Some (inside line d.0 s.0, s.1)

-- the suffixes of an abstract declarator
abbrev pub unnamed_at : Reader → List Token → Option (Declared × List Token)
unnamed_at sub ts = do
  s ← suffixes_at sub ts
  Some (unnamed s.0, s.1)

-- a declarator that begins so
unfoldable pub declared_from : List ℕ → Reader → DeclaredReader → Bool → DeclaratorStart → List Token → Option (Declared × List Token)
declared_from bytes sub inner with_name declarator_starts.Nothing ts = Some (unnamed no_suffix, ts)
declared_from bytes sub inner with_name declarator_starts.Suffixes ts = unnamed_at sub ts
declared_from bytes sub inner with_name declarator_starts.Name [] = None
declared_from bytes sub inner with_name declarator_starts.Name (t ∷ ts) = do
  s ← suffixes_at sub ts
  Some (named t.line (text_of bytes t) s.0, s.1)
declared_from bytes sub inner with_name declarator_starts.Inside [] = None
declared_from bytes sub inner with_name declarator_starts.Inside (t ∷ ts) = inside_at sub inner with_name t.line ts

-- a declarator without levels: the empty one
abbrev pub bare : Option DeclaratorStart → List Token → Option (Declared × List Token)
bare None ts = None
bare (Some declarator_starts.Nothing) ts = Some (unnamed no_suffix, ts)
bare (Some declarator_starts.Suffixes) ts = None
bare (Some declarator_starts.Name) ts = None
bare (Some declarator_starts.Inside) ts = None

-- a type name with the parenthesis behind it
unfoldable pub type_name_at : List ℕ → Scope → DeclaredReader → List Token → Option ((List TypePart × Declared) × List Token)
type_name_at bytes names declared ts = do
  p ← type_parts_at bytes names ts
  d ← declared false p.1
  rest ← behind marks.RightParenthesis d.1
  Some ((p.0, d.0), rest)

-- behind a parenthesis: a cast where a type name begins, else an expression
unfoldable pub grouped : List ℕ → Scope → Reader → DeclaredReader → ℕ → List Token → Read
grouped bytes names sub declared line ts =
    if begins_type bytes names ts then (do
      x ← type_name_at bytes names declared ts
      e ← sub 14 x.1
      Some (cast line x.0.0 x.0.1 e.0, e.1))
    else (do
      a ← sub 1 ts
      rest ← behind marks.RightParenthesis a.1
      Some (parens line a.0, rest))

-- the tokens of a type name in parentheses
abbrev pub type_behind : List ℕ → Scope → Option (List Token) → Option (List Token)
type_behind bytes names None = None
type_behind bytes names (Some ts) = if begins_type bytes names ts then Some ts else None

abbrev pub sized : List ℕ → Scope → Reader → DeclaredReader → ℕ → List Token → Option (List Token) → Read
sized bytes names sub declared line ts None = do
  e ← sub 15 ts
  Some (sizeof_expr line e.0, e.1)
sized bytes names sub declared line ts (Some rest) = do
  x ← type_name_at bytes names declared rest
  Some (sizeof_type line x.0.0 x.0.1, x.1)

-- behind `sizeof`: a type name in parentheses, or an operand
unfoldable pub sizeof_at : List ℕ → Scope → Reader → DeclaredReader → ℕ → List Token → Read
sizeof_at bytes names sub declared line ts = sized bytes names sub declared line ts (type_behind bytes names (behind marks.LeftParenthesis ts))

unfoldable pub prefixed : List ℕ → Scope → Reader → DeclaredReader → Lead → Token → List Token → Read
prefixed bytes names sub declared leads.Name t ts = if is_type names (text_of bytes t) then None else Some (name t.line (text_of bytes t), ts)
prefixed bytes names sub declared (leads.Constant c) t ts = Some (constant t.line c, ts)
prefixed bytes names sub declared (leads.Character c) t ts = Some (character t.line c, ts)
prefixed bytes names sub declared leads.Strings t ts = do
  x ← strings_behind bytes (text_of bytes t) ts
  Some (strings t.line x.0, x.1)
prefixed bytes names sub declared leads.Group t ts = grouped bytes names sub declared t.line ts
prefixed bytes names sub declared (leads.Unary op) t ts = do
  a ← sub (operand_level op) ts
  Some (unary t.line op a.0, a.1)
prefixed bytes names sub declared leads.Sizeof t ts = sizeof_at bytes names sub declared t.line ts

-- what a token and those behind it begin
unfoldable pub prefix_at : List ℕ → Scope → Reader → DeclaredReader → List Token → Read
prefix_at bytes names sub declared [] = None
prefix_at bytes names sub declared (t ∷ ts) = lead_of t.kind >>= λ lead. prefixed bytes names sub declared lead t ts

-- a left operand with what a suffix on a line makes of it
unfoldable pub suffixed : List ℕ → Reader → Suffix → ℕ → Tree → List Token → Read
suffixed bytes sub (suffixes.Operator op) line left ts = do
  b ← sub (strength_of op + 1) ts
  Some (binary line op left b.0, b.1)
suffixed bytes sub (suffixes.Becomes op) line left ts = do
  b ← sub 2 ts
  Some (assign line op left b.0, b.1)
suffixed bytes sub suffixes.Choice line left ts = do
  a ← sub 1 ts
  rest ← behind marks.Colon a.1
  b ← sub 3 rest
  Some (choice line left a.0 b.0, b.1)
suffixed bytes sub suffixes.Then line left ts = do
  b ← sub 2 ts
  Some (comma line left b.0, b.1)
suffixed bytes sub (suffixes.Step op) line left ts = Some (step line op left, ts)
suffixed bytes sub suffixes.Arguments line left ts = do
  a ← arguments_at sub ts
  Some (call left a.0, a.1)
suffixed bytes sub suffixes.Member line left ts = do
  n ← identifier_at bytes ts
  Some (member line left n.0, n.1)
suffixed bytes sub suffixes.Another line left ts = None

abbrev pub turn : List ℕ → Reader → ℕ → (Tree → List Token → Read) → Tree → List Token → Option (Suffix × ℕ × List Token) → Read
turn bytes sub n go left ts None = Some (left, ts)
turn bytes sub n go left ts (Some s) = if nat_lt (depth left) n then (suffixed bytes sub s.0 s.1 left s.2 >>= λ x. go x.0 x.1) else None

-- goes on with a left operand as far as suffixes of level k or more go on, to at most n levels, in fewer than m turns
unfoldable pub climb : List ℕ → ℕ → Reader → ℕ → ℕ → Tree → List Token → Read
climb bytes zero sub n k left ts = None
climb bytes (suc m) sub n k left ts = turn bytes sub n (climb bytes m sub n k) left ts (next_at k (level_of left) ts)

-- goes on with an operand that is of level k or more
abbrev pub from_operand : List ℕ → ℕ → Reader → ℕ → Tree × List Token → Read
from_operand bytes n sub k x = if nat_le k (level_of x.0) then climb bytes n sub n k x.0 x.1 else None

unfoldable mutual
  -- a tree of level k or more and of at most n levels
  pub reader : List ℕ → Scope → ℕ → Reader
  reader bytes names zero k ts = None
  reader bytes names (suc n) k ts =
      prefix_at bytes names (reader bytes names n) (declared_at bytes names n) ts >>= from_operand bytes (suc n) (reader bytes names n) k

  -- a declarator of at most n levels, with a name or without
  pub declared_at : List ℕ → Scope → ℕ → DeclaredReader
  declared_at bytes names zero with_name ts = bare (declarator_start_at with_name ts) ts
  declared_at bytes names (suc n) with_name ts = declarator_start_at with_name ts >>= λ h. declared_from bytes (reader bytes names n) (declared_at bytes names n) with_name h ts
