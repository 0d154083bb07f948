-- The first token of an expression, where a statement is due.
use Rattle.std.proofs.Common.{◌≡◌, ℕ, List, Bool, false, cond, Some, refl, ap, ◌∙◌}
use Rattle.c_token.specs.declared.token.Token.{Token}
use Rattle.c_token.specs.declared.token.Kind.{Kind}
use Rattle.c_token.specs.declared.token.Kind.TheVariants as kinds
use Rattle.c_token.specs.declared.token.Keyword.{Keyword}
use Rattle.c_token.specs.declared.token.Keyword.TheVariants as keywords
use Rattle.c_token.specs.declared.token.Mark.TheVariants as marks
use Rattle.c_tree.specs.Names.{Scope}
use Rattle.c_parse_expr.specs.declared.table.Lead.{Lead}
use Rattle.c_parse_expr.specs.Tables.{lead_of, lead_of_keyword}
use Rattle.c_parse_expr.specs.Reading.{is_mark}
use Rattle.c_parse_expr.proofs.CompleteSteps.{First}
use Rattle.c_parse_parts.proofs.Firsts.{first_no_mark}
use Rattle.c_parse_statements.specs.declared.table.Begin.TheVariants as begins
use Rattle.c_parse_statements.specs.Tables.{begin_of_keyword}
use Rattle.c_parse_statements.specs.inner.Reading.{begin_of}

-- an expression begins no other statement
expression_keyword : (w : Keyword) (l : Lead) → lead_of_keyword w ≡ Some l → begin_of_keyword w ≡ begins.Expression
expression_keyword keywords.Auto l e = refl
expression_keyword keywords.Break l e = absurd cc
expression_keyword keywords.Case l e = absurd cc
expression_keyword keywords.Char l e = refl
expression_keyword keywords.Const l e = refl
expression_keyword keywords.Continue l e = absurd cc
expression_keyword keywords.Default l e = absurd cc
expression_keyword keywords.Do l e = absurd cc
expression_keyword keywords.Else l e = refl
expression_keyword keywords.Enum l e = refl
expression_keyword keywords.Extern l e = refl
expression_keyword keywords.For l e = absurd cc
expression_keyword keywords.Goto l e = absurd cc
expression_keyword keywords.If l e = absurd cc
expression_keyword keywords.Inline l e = refl
expression_keyword keywords.Int l e = refl
expression_keyword keywords.Long l e = refl
expression_keyword keywords.Register l e = refl
expression_keyword keywords.Restrict l e = refl
expression_keyword keywords.Return l e = absurd cc
expression_keyword keywords.Short l e = refl
expression_keyword keywords.Signed l e = refl
expression_keyword keywords.Sizeof l e = refl
expression_keyword keywords.Static l e = refl
expression_keyword keywords.Struct l e = refl
expression_keyword keywords.Switch l e = absurd cc
expression_keyword keywords.Typedef l e = refl
expression_keyword keywords.Union l e = refl
expression_keyword keywords.Unsigned l e = refl
expression_keyword keywords.Void l e = refl
expression_keyword keywords.Volatile l e = refl
expression_keyword keywords.While l e = absurd cc
expression_keyword keywords.Bool l e = refl
expression_keyword keywords.Noreturn l e = refl

expression_kind : (colon : Bool) (k : Kind) (l : Lead) → lead_of k ≡ Some l → is_mark marks.LeftBrace k ≡ false → is_mark marks.Semicolon k ≡ false → (k ≡ kinds.Identifier → colon ≡ false) → begin_of colon k ≡ begins.Expression
expression_kind colon kinds.Identifier l e f g h = ap (λ (b : Bool). cond b begins.Label begins.Expression) (h refl)
expression_kind colon (kinds.Keyword w) l e f g h = expression_keyword w l e
expression_kind colon (kinds.Constant c) l e f g h = refl
expression_kind colon (kinds.Character c) l e f g h = refl
expression_kind colon kinds.String l e f g h = refl
expression_kind colon (kinds.Mark m) l e f g h =
    ap (λ (b : Bool). cond b begins.Block (cond (is_mark marks.Semicolon (kinds.Mark m)) begins.Empty begins.Expression)) f ∙ ap (λ (b : Bool). cond b begins.Empty begins.Expression) g

pub first_begins : (bytes : List ℕ) (names : Scope) (colon : Bool) (own : List Token) → (f : First bytes names own) → (f.token.kind ≡ kinds.Identifier → colon ≡ false) → begin_of colon f.token.kind ≡ begins.Expression
first_begins bytes names colon own f h =
    expression_kind colon f.token.kind f.lead f.is (first_no_mark marks.LeftBrace bytes names own refl f) (first_no_mark marks.Semicolon bytes names own refl f) h
