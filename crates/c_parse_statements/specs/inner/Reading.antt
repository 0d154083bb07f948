-- Reading statements and what stands in a file from left to right, with the names that are those of types and the levels that
-- the parts may have.
use Rattle.std.specs.Prelude.{ℕ, zero, suc, ◌+◌, List, [], ◌∷◌, length, Bool, false, if◌then◌else◌, Option, Some, None}
use Rattle.c_token.specs.declared.token.Token.{Token}
use Rattle.c_token.specs.declared.token.Kind.{Kind}
use Rattle.c_token.specs.declared.token.Kind.TheVariants as kinds
use Rattle.c_token.specs.declared.token.Keyword.TheVariants as keywords
use Rattle.c_token.specs.declared.token.Mark.{Mark}
use Rattle.c_token.specs.declared.token.Mark.TheVariants as marks
use Rattle.c_token.specs.Spelling.{text_of}
use Rattle.c_tree.specs.Tree.{Tree}
use Rattle.c_tree.specs.Names.{Scope}
use Rattle.c_tree.specs.Declarations.{Parts, Full, Declarators, none_declared, declarator, name_of, nearest, is_function, with_parts, with_parameters_of, with_declaration, have_typedef}
use Rattle.c_tree.specs.Statements.{Statement, block, if_then, if_else, evaluate, return_nothing, return_value, empty, while_loop, do_loop, for_loop, for_declared, switch_on, case_of, default_of, labelled, goto_label, break_off, continue_on, Items, done, declares, does}
use Rattle.c_parse_expr.specs.declared.frames.Frame.{Frame}
use Rattle.c_parse_expr.specs.inner.Many.{◌>>=◌}
use Rattle.c_parse_expr.specs.Reading.{is_mark}
use Rattle.c_parse_expr.specs.inner.Reading.{is_identifier, reader}
use Rattle.c_parse_parts.specs.declared.table.Start.{Start}
use Rattle.c_parse_parts.specs.inner.Reading.{is_keyword, Read, token_at, stands, or_else, Listing, run_at, ended_at, start_at, parts_at, are_some, body_at, full_at, initializer_at, declarators_at, declaration_at, declares_at}
use Rattle.c_parse_statements.specs.declared.table.Begin.{Begin}
use Rattle.c_parse_statements.specs.declared.table.Begin.TheVariants as begins
use Rattle.c_parse_statements.specs.Tables.{begin_of_keyword}
use Rattle.c_parse_statements.specs.Standing.{Outer, declarations, definitions}

-- what the first token of a statement begins: a name begins a label where a colon is behind it
abbrev pub begin_of : Bool → Kind → Begin
begin_of colon kinds.Identifier = if colon then begins.Label else begins.Expression
begin_of colon (kinds.Keyword k) = begin_of_keyword k
begin_of colon (kinds.Constant c) = begins.Expression
begin_of colon (kinds.Character c) = begins.Expression
begin_of colon kinds.String = begins.Expression
begin_of colon (kinds.Mark m) =
    if is_mark marks.LeftBrace (kinds.Mark m) then begins.Block
    else (if is_mark marks.Semicolon (kinds.Mark m) then begins.Empty else begins.Expression)

-- what was read, before these tokens
abbrev pub read_as : {X : Type 0} → X → List Token → Read X
read_as x ts = Some (x, ts)

-- what stands in a block, apart from what stands behind it
pub data Piece : Type 0 where
  declaration : (specifiers : Parts) (declarators : Declarators) → Piece
  statement : (s : Statement) → Piece

abbrev pub placed : Piece → Items → Items
placed (declaration parts ds) rest = declares parts ds rest
placed (statement s) rest = does s rest

-- the names behind it
abbrev pub with_piece : Scope → Piece → Scope
with_piece names (declaration parts ds) = with_declaration names parts ds
with_piece names (statement s) = names

-- reads a statement
abbrev pub Reader : Type 0
Reader = Scope → List Token → Read Statement

abbrev pub item_by : List ℕ → ℕ → Reader → Scope → List Token → Option (Start × Token × List Token) → Read Piece
item_by bytes n sub names ts None = do
  s ← sub names ts
  Some (statement s.0, s.1)
item_by bytes n sub names ts (Some x) = do
  d ← declaration_at bytes names n ts
  Some (declaration d.0.0 d.0.1, d.1)

-- a declaration or a statement of at most n levels
unfoldable pub item_at : List ℕ → ℕ → Reader → Scope → List Token → Read Piece
item_at bytes n sub names ts = item_by bytes n sub names ts (declares_at bytes names ts)

abbrev pub items_list : List ℕ → ℕ → Reader → Listing Scope Piece Items
items_list bytes n sub = record {
  after = with_piece;
  put = placed;
  stop = λ s ts. ended_at marks.RightBrace done ts;
  item = item_at bytes n sub;
}

unfoldable pub items_at : List ℕ → ℕ → Reader → Scope → List Token → Read Items
items_at bytes n sub names ts = run_at (items_list bytes n sub) (length ts + 1) names ts

-- behind the brace
unfoldable pub block_at : List ℕ → ℕ → Reader → Scope → ℕ → List Token → Read Statement
block_at bytes n sub names line ts = do
  is ← items_at bytes n sub names ts
  Some (block line is.0, is.1)

abbrev pub branched : Reader → Scope → ℕ → Tree → Statement → List Token → Read Token → Read Statement
branched sub names line test s ts None = Some (if_then line test s, ts)
branched sub names line test s ts (Some x) = do
  u ← sub names x.1
  Some (if_else line test s u.0, u.1)

-- behind the first branch: an `else` at the front belongs to the `if`
unfoldable pub branched_at : Reader → Scope → ℕ → Tree → Statement → List Token → Read Statement
branched_at sub names line test s ts = branched sub names line test s ts (token_at (is_keyword keywords.Else) ts)

-- behind the `if`
unfoldable pub tested_at : List ℕ → ℕ → Reader → Scope → ℕ → List Token → Read Statement
tested_at bytes n sub names line ts = do
  x ← token_at (is_mark marks.LeftParenthesis) ts
  e ← reader bytes names n 1 x.1
  y ← token_at (is_mark marks.RightParenthesis) e.1
  s ← sub names y.1
  branched_at sub names line e.0 s.0 s.1

-- an expression and the `;` behind it
unfoldable pub closed_at : List ℕ → Scope → ℕ → List Token → Read Tree
closed_at bytes names n ts = do
  e ← reader bytes names n 1 ts
  x ← token_at (is_mark marks.Semicolon) e.1
  Some (e.0, x.1)

unfoldable pub valued_at : List ℕ → Scope → ℕ → ℕ → List Token → Read Statement
valued_at bytes names n line ts = do
  e ← closed_at bytes names n ts
  Some (return_value line e.0, e.1)

abbrev pub bare : ℕ → Read Token → Read Statement
bare line None = None
bare line (Some x) = Some (return_nothing line, x.1)

-- behind the `return`
unfoldable pub returned_at : List ℕ → Scope → ℕ → ℕ → List Token → Read Statement
returned_at bytes names n line ts = or_else (bare line (token_at (is_mark marks.Semicolon) ts)) (valued_at bytes names n line ts)

unfoldable pub evaluated_at : List ℕ → Scope → ℕ → List Token → Read Statement
evaluated_at bytes names n ts = do
  e ← closed_at bytes names n ts
  Some (evaluate e.0, e.1)

-- an expression in parentheses
unfoldable pub test_at : List ℕ → Scope → ℕ → List Token → Read Tree
test_at bytes names n ts = do
  x ← token_at (is_mark marks.LeftParenthesis) ts
  e ← reader bytes names n 1 x.1
  y ← token_at (is_mark marks.RightParenthesis) e.1
  Some (e.0, y.1)

-- behind the `while`
unfoldable pub while_at : List ℕ → ℕ → Reader → Scope → ℕ → List Token → Read Statement
while_at bytes n sub names line ts = do
  e ← test_at bytes names n ts
  s ← sub names e.1
  Some (while_loop line e.0 s.0, s.1)

-- behind the `switch`
unfoldable pub switch_at : List ℕ → ℕ → Reader → Scope → ℕ → List Token → Read Statement
switch_at bytes n sub names line ts = do
  e ← test_at bytes names n ts
  s ← sub names e.1
  Some (switch_on line e.0 s.0, s.1)

-- behind the `do`
unfoldable pub do_at : List ℕ → ℕ → Reader → Scope → ℕ → List Token → Read Statement
do_at bytes n sub names line ts = do
  s ← sub names ts
  x ← token_at (is_keyword keywords.While) s.1
  e ← test_at bytes names n x.1
  y ← token_at (is_mark marks.Semicolon) e.1
  Some (do_loop line s.0 e.0, y.1)

abbrev pub maybe_by : List ℕ → Scope → ℕ → Mark → List Token → Read Token → Read (Option Tree)
maybe_by bytes names n mark ts None = do
  e ← reader bytes names n 1 ts
  x ← token_at (is_mark mark) e.1
  Some (Some e.0, x.1)
maybe_by bytes names n mark ts (Some x) = Some (None, x.1)

-- an expression or none, and the mark behind it
unfoldable pub maybe_at : List ℕ → Scope → ℕ → Mark → List Token → Read (Option Tree)
maybe_at bytes names n mark ts = maybe_by bytes names n mark ts (token_at (is_mark mark) ts)

-- the test, the last part and the body of a `for`
unfoldable pub header_at : List ℕ → ℕ → Reader → Scope → List Token → Read ((Option Tree × Option Tree) × Statement)
header_at bytes n sub names ts = do
  b ← maybe_at bytes names n marks.Semicolon ts
  c ← maybe_at bytes names n marks.RightParenthesis b.1
  s ← sub names c.1
  Some (((b.0, c.0), s.0), s.1)

-- behind the parenthesis of a `for` that declares something
unfoldable pub declared_for_at : List ℕ → ℕ → Reader → Scope → ℕ → List Token → Read Statement
declared_for_at bytes n sub names line ts = do
  d ← declaration_at bytes names n ts
  h ← header_at bytes n sub (with_declaration names d.0.0 d.0.1) d.1
  Some (for_declared line d.0.0 d.0.1 h.0.0.0 h.0.0.1 h.0.1, h.1)

-- behind the parenthesis of another `for`
unfoldable pub plain_for_at : List ℕ → ℕ → Reader → Scope → ℕ → List Token → Read Statement
plain_for_at bytes n sub names line ts = do
  a ← maybe_at bytes names n marks.Semicolon ts
  h ← header_at bytes n sub names a.1
  Some (for_loop line a.0 h.0.0.0 h.0.0.1 h.0.1, h.1)

abbrev pub for_by : List ℕ → ℕ → Reader → Scope → ℕ → List Token → Option (Start × Token × List Token) → Read Statement
for_by bytes n sub names line ts None = plain_for_at bytes n sub names line ts
for_by bytes n sub names line ts (Some x) = declared_for_at bytes n sub names line ts

-- behind the `for`
unfoldable pub for_at : List ℕ → ℕ → Reader → Scope → ℕ → List Token → Read Statement
for_at bytes n sub names line ts = do
  x ← token_at (is_mark marks.LeftParenthesis) ts
  for_by bytes n sub names line x.1 (start_at false bytes (names, false) x.1)

-- behind the `case`
unfoldable pub case_at : List ℕ → ℕ → Reader → Scope → ℕ → List Token → Read Statement
case_at bytes n sub names line ts = do
  e ← reader bytes names n 3 ts
  x ← token_at (is_mark marks.Colon) e.1
  s ← sub names x.1
  Some (case_of line e.0 s.0, s.1)

-- behind the `default`
unfoldable pub default_at : Reader → Scope → ℕ → List Token → Read Statement
default_at sub names line ts = do
  x ← token_at (is_mark marks.Colon) ts
  s ← sub names x.1
  Some (default_of line s.0, s.1)

-- behind the name of a label
unfoldable pub label_at : List ℕ → Reader → Scope → Token → List Token → Read Statement
label_at bytes sub names t ts = do
  x ← token_at (is_mark marks.Colon) ts
  s ← sub names x.1
  Some (labelled t.line (text_of bytes t) s.0, s.1)

-- behind the `goto`
unfoldable pub goto_at : List ℕ → ℕ → List Token → Read Statement
goto_at bytes line ts = do
  n ← token_at is_identifier ts
  x ← token_at (is_mark marks.Semicolon) n.1
  Some (goto_label line (text_of bytes n.0), x.1)

abbrev pub begun : List ℕ → ℕ → Reader → Scope → Begin → Token → List Token → Read Statement
begun bytes n sub names begins.Block t ts = block_at bytes n sub names t.line ts
begun bytes n sub names begins.If t ts = tested_at bytes n sub names t.line ts
begun bytes n sub names begins.Return t ts = returned_at bytes names n t.line ts
begun bytes n sub names begins.Expression t ts = evaluated_at bytes names n (t ∷ ts)
begun bytes n sub names begins.Empty t ts = Some (empty t.line, ts)
begun bytes n sub names begins.While t ts = while_at bytes n sub names t.line ts
begun bytes n sub names begins.Do t ts = do_at bytes n sub names t.line ts
begun bytes n sub names begins.For t ts = for_at bytes n sub names t.line ts
begun bytes n sub names begins.Switch t ts = switch_at bytes n sub names t.line ts
begun bytes n sub names begins.Case t ts = case_at bytes n sub names t.line ts
begun bytes n sub names begins.Default t ts = default_at sub names t.line ts
begun bytes n sub names begins.Label t ts = label_at bytes sub names t ts
begun bytes n sub names begins.Goto t ts = goto_at bytes t.line ts
begun bytes n sub names begins.Break t ts = ended_at marks.Semicolon (break_off t.line) ts
begun bytes n sub names begins.Continue t ts = ended_at marks.Semicolon (continue_on t.line) ts

-- a statement whose parts have at most n levels
unfoldable pub started_at : List ℕ → ℕ → Reader → Reader
started_at bytes n sub names [] = None
started_at bytes n sub names (t ∷ ts) = begun bytes n sub names (begin_of (stands marks.Colon ts) t.kind) t ts

-- a statement of at most n levels
unfoldable pub statement_at : List ℕ → ℕ → Reader
statement_at bytes zero names ts = None
statement_at bytes (suc n) names ts = started_at bytes n (statement_at bytes n) names ts

-- reads a statement, with the bytes and the levels of a frame
abbrev pub statements_in : Frame → Reader
statements_in frame = statement_at frame.bytes.now frame.levels

-- the body of a definition behind its brace; its name is declared
unfoldable pub definition_at : List ℕ → Scope → Parts → Full → ℕ → List Token → Read Outer
definition_at bytes names ps d line ts = do
  body ← (if is_function d then block_at bytes 399 (statement_at bytes 399) (with_parameters_of names (nearest d)) line ts else None)
  Some (definitions ps d body.0, body.1)

-- behind the first declarator of a declaration, which is declared: its initializer, and other declarators
unfoldable pub others_at : List ℕ → Scope → Bool → Full → List Token → Read Declarators
others_at bytes names types d ts = do
  i ← initializer_at bytes names 400 ts
  ds ← declarators_at bytes names types 400 false i.1
  Some (declarator d i.0 ds.0, ds.1)

abbrev pub outer_behind : List ℕ → Scope → Parts → Full → List Token → Read Token → Read Outer
outer_behind bytes names ps d ts None = do
  ds ← others_at bytes names (have_typedef ps) d ts
  Some (declarations ps ds.0, ds.1)
outer_behind bytes names ps d ts (Some x) = definition_at bytes names ps d x.0.line x.1

-- behind specifiers, in which enumerators are declared: a declarator
unfoldable pub first_at : List ℕ → Scope → Parts → List Token → Read Outer
first_at bytes names ps ts = do
  d ← full_at bytes 400 false names ts
  outer_behind bytes ((name_of d.0, have_typedef ps) ∷ names) ps d.0 d.1 (token_at (is_mark marks.LeftBrace) d.1)

abbrev pub outer_from : List ℕ → Scope → Parts → List Token → Read Token → Read Outer
outer_from bytes names ps ts None = first_at bytes names ps ts
outer_from bytes names ps ts (Some x) = Some (declarations ps none_declared, x.1)

-- a declaration or a definition of at most 400 levels
unfoldable pub outer_at : List ℕ → Scope → List Token → Read Outer
outer_at bytes names ts = do
  p ← parts_at false bytes 400 (body_at bytes 400) names ts
  if are_some p.0 then outer_from bytes (with_parts names p.0) p.0 p.1 (token_at (is_mark marks.Semicolon) p.1) else None
