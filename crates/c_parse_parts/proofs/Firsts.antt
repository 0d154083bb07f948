-- The first token of an expression.
use Rattle.std.proofs.Common.{◌≡◌, ℕ, List, ◌++◌, Bool, true, false, Some, None, refl, ap, sym, ◌∙◌}
use Rattle.c_token.specs.declared.token.Token.{Token}
use Rattle.c_token.specs.declared.token.Kind.{Kind}
use Rattle.c_token.specs.declared.token.Kind.TheVariants as kinds
use Rattle.c_token.specs.declared.token.Keyword.{Keyword}
use Rattle.c_token.specs.declared.token.Keyword.TheVariants as keywords
use Rattle.c_token.specs.declared.token.Mark.{Mark}
use Rattle.c_token.specs.Spelling.{text_of}
use Rattle.c_tree.specs.Names.{Scope, is_type}
use Rattle.c_parse_expr.specs.declared.table.Lead.{Lead}
use Rattle.c_parse_expr.specs.Tables.{lead_of, lead_of_mark, lead_of_keyword}
use Rattle.c_parse_expr.specs.Reading.{is_mark}
use Rattle.c_parse_expr.specs.inner.Reading as expressions
use Rattle.c_parse_parts.specs.Tables.{start_of_keyword}
use Rattle.c_parse_parts.specs.inner.Reading.{is_keyword, start_by, start_at}
use Rattle.c_parse_parts.proofs.Words.{mark_by, keyword_by}
use Rattle.c_parse_parts.proofs.Starts.{start_fails}
use Rattle.c_parse_expr.proofs.CompleteSteps.{First}

no_start_keyword : (k : Keyword) (l : Lead) → lead_of_keyword k ≡ Some l → start_of_keyword k ≡ None
no_start_keyword keywords.Auto l e = absurd cc
no_start_keyword keywords.Break l e = refl
no_start_keyword keywords.Case l e = refl
no_start_keyword keywords.Char l e = absurd cc
no_start_keyword keywords.Const l e = absurd cc
no_start_keyword keywords.Continue l e = refl
no_start_keyword keywords.Default l e = refl
no_start_keyword keywords.Do l e = refl
no_start_keyword keywords.Else l e = refl
no_start_keyword keywords.Enum l e = absurd cc
no_start_keyword keywords.Extern l e = absurd cc
no_start_keyword keywords.For l e = refl
no_start_keyword keywords.Goto l e = refl
no_start_keyword keywords.If l e = refl
no_start_keyword keywords.Inline l e = absurd cc
no_start_keyword keywords.Int l e = absurd cc
no_start_keyword keywords.Long l e = absurd cc
no_start_keyword keywords.Register l e = absurd cc
no_start_keyword keywords.Restrict l e = absurd cc
no_start_keyword keywords.Return l e = refl
no_start_keyword keywords.Short l e = absurd cc
no_start_keyword keywords.Signed l e = absurd cc
no_start_keyword keywords.Sizeof l e = refl
no_start_keyword keywords.Static l e = absurd cc
no_start_keyword keywords.Struct l e = absurd cc
no_start_keyword keywords.Switch l e = refl
no_start_keyword keywords.Typedef l e = absurd cc
no_start_keyword keywords.Union l e = absurd cc
no_start_keyword keywords.Unsigned l e = absurd cc
no_start_keyword keywords.Void l e = absurd cc
no_start_keyword keywords.Volatile l e = absurd cc
no_start_keyword keywords.While l e = refl
no_start_keyword keywords.Bool l e = absurd cc
no_start_keyword keywords.Noreturn l e = absurd cc

no_start_kind : (named : Bool) (k : Kind) (l : Lead) → lead_of k ≡ Some l → expressions.start_by named k ≡ None → start_by named k ≡ None
no_start_kind true kinds.Identifier l e f = absurd cc
no_start_kind false kinds.Identifier l e f = refl
no_start_kind named (kinds.Keyword k) l e f = no_start_keyword k l e
no_start_kind named (kinds.Constant c) l e f = refl
no_start_kind named (kinds.Character c) l e f = refl
no_start_kind named kinds.String l e f = refl
no_start_kind named (kinds.Mark m) l e f = refl

-- an expression begins no declaration
pub first_no_start : (inner : Bool) (bytes : List ℕ) (names : Scope) (own rest : List Token) → (f : First bytes names own) → start_at inner bytes (names, false) (own ++ rest) ≡ None
first_no_start inner bytes names own rest f =
    ap (λ (xs : List Token). start_at inner bytes (names, false) (xs ++ rest)) f.whole
    ∙ start_fails inner bytes (names, false) f.token (f.others ++ rest) f.token.kind refl (no_start_kind (is_type names (text_of bytes f.token)) f.token.kind f.lead f.is f.no_type)

no_mark_kind : (m : Mark) (k : Kind) (l : Lead) (b : Bool) → lead_of_mark m ≡ None → lead_of k ≡ Some l → is_mark m k ≡ b → is_mark m k ≡ false
no_mark_kind m k l true f e g = let h = ap lead_of (mark_by m k g) in absurd cc
no_mark_kind m k l false f e g = g

-- an expression begins with no mark that begins none
pub first_no_mark : (m : Mark) (bytes : List ℕ) (names : Scope) (own : List Token) → lead_of_mark m ≡ None → (f : First bytes names own) → is_mark m f.token.kind ≡ false
first_no_mark m bytes names own e f = no_mark_kind m f.token.kind f.lead (is_mark m f.token.kind) e f.is refl

no_keyword_kind : (w : Keyword) (k : Kind) (l : Lead) (b : Bool) → lead_of_keyword w ≡ None → lead_of k ≡ Some l → is_keyword w k ≡ b → is_keyword w k ≡ false
no_keyword_kind w k l true f e g = let h = ap lead_of (keyword_by w k g) in absurd cc
no_keyword_kind w k l false f e g = g

-- nor with a keyword that begins none
pub first_no_keyword : (w : Keyword) (bytes : List ℕ) (names : Scope) (own : List Token) → lead_of_keyword w ≡ None → (f : First bytes names own) → is_keyword w f.token.kind ≡ false
first_no_keyword w bytes names own e f = no_keyword_kind w f.token.kind f.lead (is_keyword w f.token.kind) e f.is refl

-- a name that begins an expression isn't that of a type
no_type_name : (named : Bool) → expressions.start_by named kinds.Identifier ≡ None → named ≡ false
no_type_name true e = absurd cc
no_type_name false e = refl

pub first_no_type : (bytes : List ℕ) (names : Scope) (own : List Token) → (f : First bytes names own) → f.token.kind ≡ kinds.Identifier → is_type names (text_of bytes f.token) ≡ false
first_no_type bytes names own f e =
    no_type_name (is_type names (text_of bytes f.token)) (sym (ap (expressions.start_by (is_type names (text_of bytes f.token))) e) ∙ f.no_type)
