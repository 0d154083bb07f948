-- The tables of marks in both directions.
use Rattle.std.proofs.Common.{◌≡◌, Option, Some, None, refl, ap, sym, subst, ◌∙◌, Bool, true, false}
use Rattle.std.specs.Prelude.{option_map}
use Rattle.std.specs.Str.{bytes_eq}
use Rattle.std.proofs.lemmas.Slice.Eq.{bytes_eq-Decides}
use Rattle.c_token.specs.Spelling.{mark_text, mark_of}
use Rattle.c_token.proofs.Spellings.{mark_back}
use Rattle.c_token.specs.declared.token.Kind.{Kind}
use Rattle.c_token.specs.declared.token.Kind.TheVariants as kinds
use Rattle.c_token.specs.declared.token.Keyword.{Keyword}
use Rattle.c_token.specs.declared.token.Keyword.TheVariants as keywords
use Rattle.c_token.specs.declared.token.Mark.{Mark}
use Rattle.c_token.specs.declared.token.Mark.TheVariants as marks
use Rattle.c_tree.specs.declared.expr.BinaryOp.{BinaryOp}
use Rattle.c_tree.specs.declared.expr.BinaryOp.TheVariants as binaries
use Rattle.c_tree.specs.declared.expr.UnaryOp.{UnaryOp}
use Rattle.c_tree.specs.declared.expr.UnaryOp.TheVariants as unaries
use Rattle.c_tree.specs.declared.expr.StepOp.{StepOp}
use Rattle.c_tree.specs.declared.expr.StepOp.TheVariants as steps
use Rattle.c_tree.specs.declared.specifier.Qualifier.{Qualifier}
use Rattle.c_tree.specs.declared.specifier.Qualifier.TheVariants as qualifiers
use Rattle.c_tree.specs.declared.specifier.TypeWord.{TypeWord}
use Rattle.c_tree.specs.declared.specifier.TypeWord.TheVariants as type_words
use Rattle.c_tree.specs.declared.specifier.TagKind.{TagKind}
use Rattle.c_tree.specs.declared.specifier.TagKind.TheVariants as tag_kinds
use Rattle.c_tree.specs.Tables.{binary_mark, assign_mark, unary_mark, step_mark, qualifier_keyword, word_keyword, tag_keyword}
use Rattle.c_parse_expr.specs.declared.table.Lead.{Lead}
use Rattle.c_parse_expr.specs.declared.table.Lead.TheVariants as leads
use Rattle.c_parse_expr.specs.declared.table.Suffix.{Suffix}
use Rattle.c_parse_expr.specs.declared.table.Suffix.TheVariants as suffixes
use Rattle.c_parse_expr.specs.declared.table.TypeStart.{TypeStart}
use Rattle.c_parse_expr.specs.declared.table.TypeStart.TheVariants as starts
use Rattle.c_parse_expr.specs.Tables.{keyword_start, lead_of_keyword, lead_of, lead_of_mark, suffix_of, suffix_of_mark}
use Rattle.c_parse_expr.specs.Reading.{is_mark}
use Rattle.c_parse_expr.specs.inner.Reading.{is_identifier, is_string, start_by}
use Rattle.c_parse_expr.specs.Standing.{is_another}

-- the kinds of token that do this behind an operand
abbrev pub Behaves : Suffix → Kind → Type 0
Behaves (suffixes.Operator op) k = k ≡ kinds.Mark (binary_mark op)
Behaves (suffixes.Becomes op) k = option_map kinds.Mark (assign_mark op) ≡ Some k
Behaves suffixes.Choice k = k ≡ kinds.Mark marks.Question
Behaves suffixes.Then k = k ≡ kinds.Mark marks.Comma
Behaves (suffixes.Step op) k = k ≡ kinds.Mark (step_mark op)
Behaves suffixes.Arguments k = k ≡ kinds.Mark marks.LeftParenthesis
Behaves suffixes.Member k = k ≡ kinds.Mark marks.Dot
Behaves suffixes.Another k = k ≡ kinds.String

-- the kinds of token that begin this
abbrev pub Leads : Lead → Kind → Type 0
Leads leads.Name k = k ≡ kinds.Identifier
Leads (leads.Constant c) k = k ≡ kinds.Constant c
Leads (leads.Character c) k = k ≡ kinds.Character c
Leads leads.Strings k = k ≡ kinds.String
Leads leads.Group k = k ≡ kinds.Mark marks.LeftParenthesis
Leads (leads.Unary op) k = k ≡ kinds.Mark (unary_mark op)
Leads leads.Sizeof k = k ≡ kinds.Keyword keywords.Sizeof

pub some_is : {A : Type 0} {x y : A} → Some x ≡ Some y → x ≡ y
some_is e = cc

behaves_mark : (m : Mark) (s : Suffix) → suffix_of_mark m ≡ Some s → Behaves s (kinds.Mark m)
behaves_mark marks.LeftBracket s e = cc
behaves_mark marks.RightBracket s e = cc
behaves_mark marks.RightParenthesis s e = cc
behaves_mark marks.LeftBrace s e = cc
behaves_mark marks.RightBrace s e = cc
behaves_mark marks.Arrow s e = cc
behaves_mark marks.Tilde s e = cc
behaves_mark marks.Exclamation s e = cc
behaves_mark marks.Colon s e = cc
behaves_mark marks.Semicolon s e = cc
behaves_mark marks.Ellipsis s e = cc
behaves_mark marks.Hash s e = cc
behaves_mark m s e = subst (λ x. Behaves x (kinds.Mark m)) (some_is e) refl

pub behaves : (k : Kind) (s : Suffix) → suffix_of k ≡ Some s → Behaves s k
behaves kinds.Identifier s e = cc
behaves (kinds.Keyword w) s e = cc
behaves (kinds.Constant c) s e = cc
behaves (kinds.Character c) s e = cc
behaves kinds.String s e = subst (λ x. Behaves x kinds.String) (some_is e) refl
behaves (kinds.Mark m) s e = behaves_mark m s e

leads_mark : (m : Mark) (s : Lead) → lead_of_mark m ≡ Some s → Leads s (kinds.Mark m)
leads_mark marks.LeftParenthesis s e = subst (λ x. Leads x (kinds.Mark marks.LeftParenthesis)) (some_is e) refl
leads_mark marks.PlusPlus s e = subst (λ x. Leads x (kinds.Mark marks.PlusPlus)) (some_is e) refl
leads_mark marks.MinusMinus s e = subst (λ x. Leads x (kinds.Mark marks.MinusMinus)) (some_is e) refl
leads_mark marks.Plus s e = subst (λ x. Leads x (kinds.Mark marks.Plus)) (some_is e) refl
leads_mark marks.Minus s e = subst (λ x. Leads x (kinds.Mark marks.Minus)) (some_is e) refl
leads_mark marks.Tilde s e = subst (λ x. Leads x (kinds.Mark marks.Tilde)) (some_is e) refl
leads_mark marks.Exclamation s e = subst (λ x. Leads x (kinds.Mark marks.Exclamation)) (some_is e) refl
leads_mark _ s e = cc

leads_keyword : (k : Keyword) (s : Lead) → lead_of_keyword k ≡ Some s → Leads s (kinds.Keyword k)
leads_keyword keywords.Sizeof s e = subst (λ x. Leads x (kinds.Keyword keywords.Sizeof)) (some_is e) refl
leads_keyword _ s e = cc

pub leads_by : (k : Kind) (s : Lead) → lead_of k ≡ Some s → Leads s k
leads_by kinds.Identifier s e = subst (λ x. Leads x kinds.Identifier) (some_is e) refl
leads_by (kinds.Keyword w) s e = leads_keyword w s e
leads_by (kinds.Constant c) s e = subst (λ x. Leads x (kinds.Constant c)) (some_is e) refl
leads_by (kinds.Character c) s e = subst (λ x. Leads x (kinds.Character c)) (some_is e) refl
leads_by kinds.String s e = subst (λ x. Leads x kinds.String) (some_is e) refl
leads_by (kinds.Mark m) s e = leads_mark m s e

operator_mark : (op : BinaryOp) → suffix_of_mark (binary_mark op) ≡ Some (suffixes.Operator op)
operator_mark binaries.LogicalOr = refl
operator_mark binaries.LogicalAnd = refl
operator_mark binaries.Or = refl
operator_mark binaries.Xor = refl
operator_mark binaries.And = refl
operator_mark binaries.Equal = refl
operator_mark binaries.NotEqual = refl
operator_mark binaries.Less = refl
operator_mark binaries.Greater = refl
operator_mark binaries.LessEqual = refl
operator_mark binaries.GreaterEqual = refl
operator_mark binaries.ShiftLeft = refl
operator_mark binaries.ShiftRight = refl
operator_mark binaries.Add = refl
operator_mark binaries.Subtract = refl
operator_mark binaries.Multiply = refl
operator_mark binaries.Divide = refl
operator_mark binaries.Remainder = refl

becomes_mark : (op : Option BinaryOp) (k : Kind) → option_map kinds.Mark (assign_mark op) ≡ Some k → suffix_of k ≡ Some (suffixes.Becomes op)
becomes_mark None k e = sym (ap suffix_of (some_is e))
becomes_mark (Some binaries.LogicalOr) k e = cc
becomes_mark (Some binaries.LogicalAnd) k e = cc
becomes_mark (Some binaries.Or) k e = sym (ap suffix_of (some_is e))
becomes_mark (Some binaries.Xor) k e = sym (ap suffix_of (some_is e))
becomes_mark (Some binaries.And) k e = sym (ap suffix_of (some_is e))
becomes_mark (Some binaries.Equal) k e = cc
becomes_mark (Some binaries.NotEqual) k e = cc
becomes_mark (Some binaries.Less) k e = cc
becomes_mark (Some binaries.Greater) k e = cc
becomes_mark (Some binaries.LessEqual) k e = cc
becomes_mark (Some binaries.GreaterEqual) k e = cc
becomes_mark (Some binaries.ShiftLeft) k e = sym (ap suffix_of (some_is e))
becomes_mark (Some binaries.ShiftRight) k e = sym (ap suffix_of (some_is e))
becomes_mark (Some binaries.Add) k e = sym (ap suffix_of (some_is e))
becomes_mark (Some binaries.Subtract) k e = sym (ap suffix_of (some_is e))
becomes_mark (Some binaries.Multiply) k e = sym (ap suffix_of (some_is e))
becomes_mark (Some binaries.Divide) k e = sym (ap suffix_of (some_is e))
becomes_mark (Some binaries.Remainder) k e = sym (ap suffix_of (some_is e))

unary_lead : (op : UnaryOp) → lead_of_mark (unary_mark op) ≡ Some (leads.Unary op)
unary_lead unaries.Increment = refl
unary_lead unaries.Decrement = refl
unary_lead unaries.Plus = refl
unary_lead unaries.Minus = refl
unary_lead unaries.Complement = refl
unary_lead unaries.Not = refl

step_suffix : (op : StepOp) → suffix_of_mark (step_mark op) ≡ Some (suffixes.Step op)
step_suffix steps.Increment = refl
step_suffix steps.Decrement = refl

pub behaves_so : (k : Kind) (s : Suffix) → Behaves s k → suffix_of k ≡ Some s
behaves_so k (suffixes.Operator op) e = ap suffix_of e ∙ operator_mark op
behaves_so k (suffixes.Becomes op) e = becomes_mark op k e
behaves_so k suffixes.Choice e = ap suffix_of e
behaves_so k suffixes.Then e = ap suffix_of e
behaves_so k (suffixes.Step op) e = ap suffix_of e ∙ step_suffix op
behaves_so k suffixes.Arguments e = ap suffix_of e
behaves_so k suffixes.Member e = ap suffix_of e
behaves_so k suffixes.Another e = ap suffix_of e

pub leads_so : (k : Kind) (s : Lead) → Leads s k → lead_of k ≡ Some s
leads_so k leads.Name e = ap lead_of e
leads_so k (leads.Constant c) e = ap lead_of e
leads_so k (leads.Character c) e = ap lead_of e
leads_so k leads.Strings e = ap lead_of e
leads_so k leads.Group e = ap lead_of e
leads_so k (leads.Unary op) e = ap lead_of e ∙ unary_lead op
leads_so k leads.Sizeof e = ap lead_of e

-- marks of one text are the same mark
same_mark : (a b : Mark) → bytes_eq (mark_text a) (mark_text b) ≡ true → a ≡ b
same_mark a b e =
    some_is (sym (mark_back a) ∙ ap mark_of ((bytes_eq-Decides (mark_text a) (mark_text b)).0 e) ∙ mark_back b)

pub mark_by : (m : Mark) (k : Kind) → is_mark m k ≡ true → k ≡ kinds.Mark m
mark_by m kinds.Identifier e = cc
mark_by m (kinds.Keyword k) e = cc
mark_by m (kinds.Constant c) e = cc
mark_by m (kinds.Character c) e = cc
mark_by m kinds.String e = cc
mark_by m (kinds.Mark n) e = ap kinds.Mark (same_mark n m e)

pub close_is : (k : Kind) → is_mark marks.RightParenthesis k ≡ true → k ≡ kinds.Mark marks.RightParenthesis
close_is k e = mark_by marks.RightParenthesis k e

pub colon_is : (k : Kind) → is_mark marks.Colon k ≡ true → k ≡ kinds.Mark marks.Colon
colon_is k e = mark_by marks.Colon k e

pub comma_is : (k : Kind) → is_mark marks.Comma k ≡ true → k ≡ kinds.Mark marks.Comma
comma_is k e = mark_by marks.Comma k e

pub open_is : (k : Kind) → is_mark marks.LeftParenthesis k ≡ true → k ≡ kinds.Mark marks.LeftParenthesis
open_is k e = mark_by marks.LeftParenthesis k e

pub bracket_is : (k : Kind) → is_mark marks.LeftBracket k ≡ true → k ≡ kinds.Mark marks.LeftBracket
bracket_is k e = mark_by marks.LeftBracket k e

pub end_is : (k : Kind) → is_mark marks.RightBracket k ≡ true → k ≡ kinds.Mark marks.RightBracket
end_is k e = mark_by marks.RightBracket k e

pub identifier_is : (k : Kind) → is_identifier k ≡ true → k ≡ kinds.Identifier
identifier_is kinds.Identifier e = refl
identifier_is (kinds.Keyword w) e = cc
identifier_is (kinds.Constant c) e = cc
identifier_is (kinds.Character c) e = cc
identifier_is kinds.String e = cc
identifier_is (kinds.Mark m) e = cc

pub string_is : (k : Kind) → is_string k ≡ true → k ≡ kinds.String
string_is kinds.Identifier e = cc
string_is (kinds.Keyword w) e = cc
string_is (kinds.Constant c) e = cc
string_is (kinds.Character c) e = cc
string_is kinds.String e = refl
string_is (kinds.Mark m) e = cc

-- only a string literal goes on with strings
pub not_another : (k : Kind) (s : Suffix) → suffix_of k ≡ Some s → is_string k ≡ false → is_another s ≡ false
not_another k (suffixes.Operator op) e f = refl
not_another k (suffixes.Becomes op) e f = refl
not_another k suffixes.Choice e f = refl
not_another k suffixes.Then e f = refl
not_another k (suffixes.Step op) e f = refl
not_another k suffixes.Arguments e f = refl
not_another k suffixes.Member e f = refl
not_another k suffixes.Another e f = let g = ap is_string (behaves k suffixes.Another e) in cc

-- the kinds of token that begin a specifier of a type so
abbrev pub Starts : TypeStart → Kind → Type 0
Starts (starts.Qualifier q) k = k ≡ kinds.Keyword (qualifier_keyword q)
Starts (starts.Word w) k = k ≡ kinds.Keyword (word_keyword w)
Starts (starts.Tag kind) k = k ≡ kinds.Keyword (tag_keyword kind)
Starts starts.Name k = k ≡ kinds.Identifier

starts_keyword : (k : Keyword) (s : TypeStart) → keyword_start k ≡ Some s → Starts s (kinds.Keyword k)
starts_keyword keywords.Auto s e = cc
starts_keyword keywords.Break s e = cc
starts_keyword keywords.Case s e = cc
starts_keyword keywords.Continue s e = cc
starts_keyword keywords.Default s e = cc
starts_keyword keywords.Do s e = cc
starts_keyword keywords.Else s e = cc
starts_keyword keywords.Extern s e = cc
starts_keyword keywords.For s e = cc
starts_keyword keywords.Goto s e = cc
starts_keyword keywords.If s e = cc
starts_keyword keywords.Inline s e = cc
starts_keyword keywords.Register s e = cc
starts_keyword keywords.Return s e = cc
starts_keyword keywords.Sizeof s e = cc
starts_keyword keywords.Static s e = cc
starts_keyword keywords.Switch s e = cc
starts_keyword keywords.Typedef s e = cc
starts_keyword keywords.While s e = cc
starts_keyword keywords.Noreturn s e = cc
starts_keyword k s e = subst (λ x. Starts x (kinds.Keyword k)) (some_is e) refl

starts_name : (b : Bool) (s : TypeStart) → start_by b kinds.Identifier ≡ Some s → Starts s kinds.Identifier
starts_name true s e = subst (λ x. Starts x kinds.Identifier) (some_is e) refl
starts_name false s e = absurd cc

pub starts_by : (b : Bool) (k : Kind) (s : TypeStart) → start_by b k ≡ Some s → Starts s k
starts_by b kinds.Identifier s e = starts_name b s e
starts_by b (kinds.Keyword w) s e = starts_keyword w s e
starts_by b (kinds.Constant c) s e = absurd cc
starts_by b (kinds.Character c) s e = absurd cc
starts_by b kinds.String s e = absurd cc
starts_by b (kinds.Mark m) s e = absurd cc

qualifier_start : (q : Qualifier) → keyword_start (qualifier_keyword q) ≡ Some (starts.Qualifier q)
qualifier_start qualifiers.Const = refl
qualifier_start qualifiers.Volatile = refl
qualifier_start qualifiers.Restrict = refl

word_start : (w : TypeWord) → keyword_start (word_keyword w) ≡ Some (starts.Word w)
word_start type_words.Void = refl
word_start type_words.Char = refl
word_start type_words.Short = refl
word_start type_words.Int = refl
word_start type_words.Long = refl
word_start type_words.Signed = refl
word_start type_words.Unsigned = refl
word_start type_words.Bool = refl

tag_start : (t : TagKind) → keyword_start (tag_keyword t) ≡ Some (starts.Tag t)
tag_start tag_kinds.Struct = refl
tag_start tag_kinds.Union = refl
tag_start tag_kinds.Enum = refl

-- what a keyword begins doesn't rest on names
pub starts_qualifier : (b : Bool) (k : Kind) (q : Qualifier) → k ≡ kinds.Keyword (qualifier_keyword q) → start_by b k ≡ Some (starts.Qualifier q)
starts_qualifier b k q e = ap (start_by b) e ∙ qualifier_start q

pub starts_word : (b : Bool) (k : Kind) (w : TypeWord) → k ≡ kinds.Keyword (word_keyword w) → start_by b k ≡ Some (starts.Word w)
starts_word b k w e = ap (start_by b) e ∙ word_start w

pub starts_tag : (b : Bool) (k : Kind) (t : TagKind) → k ≡ kinds.Keyword (tag_keyword t) → start_by b k ≡ Some (starts.Tag t)
starts_tag b k t e = ap (start_by b) e ∙ tag_start t

pub starts_type : (b : Bool) (k : Kind) → b ≡ true → k ≡ kinds.Identifier → start_by b k ≡ Some starts.Name
starts_type b k e f = ap (start_by b) f ∙ ap (λ (x : Bool). start_by x kinds.Identifier) e
