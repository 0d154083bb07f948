-- Where a tree stands among tokens (C11 6.5).
use Rattle.std.specs.Prelude.{◌≡◌, ◌≤◌, ℕ, ◌+◌, List, [], ◌∷◌, ◌++◌, Bool, false, ◌&&◌, ◌||◌, true, Option, None, IfSome}
use Rattle.c_token.specs.declared.token.Token.{Token}
use Rattle.c_tree.specs.Tree.{Tree, Declared, constant, character, strings, name, parens, unary, address, dereference, cast, sizeof_expr, sizeof_type, step, member, arrow, subscript, binary, choice, assign, comma, call, depth, declared_depth}
use Rattle.c_tree.specs.Tables.{strength_of, operand_level, level_of}
use Rattle.c_tree.specs.Names.{Scope}
use Rattle.c_tree.specs.Spelling.{Spells, IsWell, SpellsDeclared, IsWellDeclared, is_empty, has_name}
use Rattle.c_token.specs.declared.token.Mark.{Mark}
use Rattle.c_token.specs.declared.token.Mark.TheVariants as marks
use Rattle.c_parse_expr.specs.declared.table.Suffix.{Suffix}
use Rattle.c_parse_expr.specs.declared.table.Suffix.TheVariants as suffixes
use Rattle.c_parse_expr.specs.declared.place.Level.{Level}
use Rattle.c_parse_expr.specs.declared.place.Level.TheVariants as levels
use Rattle.c_parse_expr.specs.Tables.{suffix_of}
use Rattle.c_parse_expr.specs.Reading.{goes_on, is_mark}

abbrev pub is_another : Suffix → Bool
is_another (suffixes.Operator op) = false
is_another (suffixes.Becomes op) = false
is_another suffixes.Choice = false
is_another suffixes.Then = false
is_another (suffixes.Step op) = false
is_another suffixes.Arguments = false
is_another suffixes.Member = false
is_another suffixes.Another = true

-- A suffix goes on with the last operand of a tree, or with the last operand of that one, and so on. A string literal goes on
-- with strings.
abbrev pub goes_on_inside : Tree → Suffix → Bool
goes_on_inside (constant line c) s = false
goes_on_inside (character line c) s = false
goes_on_inside (strings line parts) s = is_another s
goes_on_inside (name line n) s = false
goes_on_inside (parens line e) s = false
goes_on_inside (unary line op e) s = goes_on (operand_level op) (level_of e) s || goes_on_inside e s
goes_on_inside (address line e) s = goes_on 14 (level_of e) s || goes_on_inside e s
goes_on_inside (dereference line e) s = goes_on 14 (level_of e) s || goes_on_inside e s
goes_on_inside (cast line parts d e) s = goes_on 14 (level_of e) s || goes_on_inside e s
goes_on_inside (sizeof_expr line e) s = goes_on 15 (level_of e) s || goes_on_inside e s
goes_on_inside (sizeof_type line parts d) s = false
goes_on_inside (step line op e) s = false
goes_on_inside (member line e n) s = false
goes_on_inside (arrow line e n) s = false
goes_on_inside (subscript line a b) s = false
goes_on_inside (binary line op a b) s = goes_on (strength_of op + 1) (level_of b) s || goes_on_inside b s
goes_on_inside (choice line a b c) s = goes_on 3 (level_of c) s || goes_on_inside c s
goes_on_inside (assign line op a b) s = goes_on 2 (level_of b) s || goes_on_inside b s
goes_on_inside (comma line a b) s = goes_on 2 (level_of b) s || goes_on_inside b s
goes_on_inside (call f args) s = false

-- what the first token does behind an operand
abbrev pub suffix_at : List Token → Option Suffix
suffix_at [] = None
suffix_at (t ∷ ts) = suffix_of t.kind

-- the token that follows can't go on with any last operand of the tree
abbrev pub Inside : Tree → List Token → Type 0
Inside t rest = IfSome (suffix_at rest) (λ s. goes_on_inside t s ≡ false)

-- nor with the tree itself, where a tree of level k or more is read
abbrev pub Ends : ℕ → Tree → List Token → Type 0
Ends k t rest = IfSome (suffix_at rest) (λ s. goes_on k (level_of t) s ≡ false)

-- The tree of at most these levels and at least level k stands at the front of the tokens, before the rest.
pub record Stands (bytes : List ℕ) (names : Scope) (levels k : ℕ) (t : Tree) (tokens rest : List Token) : Type 0 where
  pub own : List Token
  pub spelled : Spells bytes t own
  pub front : tokens ≡ own ++ rest
  pub level : k ≤ level_of t
  pub well : IsWell names t
  pub inside : Inside t rest
  pub ends : Ends k t rest
  pub deep : depth t ≤ levels

-- the first token is a mark
abbrev pub opens : Mark → List Token → Bool
opens mark [] = false
opens mark (t ∷ ts) = is_mark mark t.kind

-- The first token goes on with a declarator: another suffix, or a parenthesis behind the empty one.
abbrev pub goes_on_with : Declared → List Token → Bool
goes_on_with d ts = opens marks.LeftBracket ts || (is_empty d && opens marks.LeftParenthesis ts)

-- The declarator of at most these levels, with a name or without, stands at the front of the tokens, before the rest.
pub record DeclaredStands (bytes : List ℕ) (names : Scope) (levels : ℕ) (named : Bool) (d : Declared) (tokens rest : List Token) : Type 0 where
  pub own : List Token
  pub spelled : SpellsDeclared bytes d own
  pub front : tokens ≡ own ++ rest
  pub declarator_start : has_name d ≡ named
  pub well : IsWellDeclared names d
  pub ends : goes_on_with d rest ≡ false
  pub deep : declared_depth d ≤ levels

abbrev pub number_of : Level → ℕ
number_of levels.Comma = 1
number_of levels.Assignment = 2
number_of levels.Conditional = 3

-- the line of the first token, or the file's last line where there is none
abbrev pub line_at : ℕ → List Token → ℕ
line_at last [] = last
line_at last (t ∷ ts) = t.line
