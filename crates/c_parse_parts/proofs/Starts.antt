-- What begins a specifier.
use Rattle.std.proofs.Common.{◌≡◌, List, [], ◌∷◌, Bool, true, false, cond, Option, Some, None, refl, ap, sym, subst, ◌∙◌}
use Rattle.std.specs.Prelude.{ℕ, not, ◌&&◌}
use Rattle.c_token.specs.declared.token.Token.{Token}
use Rattle.c_token.specs.declared.token.Kind.{Kind}
use Rattle.c_token.specs.declared.token.Kind.TheVariants as kinds
use Rattle.c_token.specs.declared.token.Keyword.{Keyword}
use Rattle.c_token.specs.declared.token.Keyword.TheVariants as keywords
use Rattle.c_token.specs.declared.token.Mark.{Mark}
use Rattle.c_token.specs.Spelling.{text_of}
use Rattle.c_tree.specs.declared.specifier.Qualifier.{Qualifier}
use Rattle.c_tree.specs.declared.specifier.Qualifier.TheVariants as qualifiers
use Rattle.c_tree.specs.declared.specifier.TypeWord.{TypeWord}
use Rattle.c_tree.specs.declared.specifier.TypeWord.TheVariants as type_words
use Rattle.c_tree.specs.declared.declaration.StorageClass.{StorageClass}
use Rattle.c_tree.specs.declared.declaration.StorageClass.TheVariants as storage_classes
use Rattle.c_tree.specs.declared.declaration.FunctionSpecifier.{FunctionSpecifier}
use Rattle.c_tree.specs.declared.declaration.FunctionSpecifier.TheVariants as function_specifiers
use Rattle.c_tree.specs.declared.declaration.RecordKind.{RecordKind}
use Rattle.c_tree.specs.declared.declaration.RecordKind.TheVariants as record_kinds
use Rattle.c_tree.specs.Tables.{qualifier_keyword, word_keyword, storage_keyword, function_keyword, record_keyword}
use Rattle.c_tree.specs.Names.{is_type}
use Rattle.c_parse_expr.specs.inner.Many.{◌>>=◌}
use Rattle.c_parse_expr.specs.Reading.{is_mark}
use Rattle.c_parse_parts.specs.declared.table.Start.{Start}
use Rattle.c_parse_parts.specs.declared.table.Start.TheVariants as starts
use Rattle.c_parse_parts.specs.Tables.{start_of_keyword}
use Rattle.c_parse_parts.specs.inner.Reading.{State, is_keyword, token_at, start_by, kept, start_of, start_at}
use Rattle.c_parse_parts.proofs.Lists.{some_is, bind_some}
use Rattle.c_parse_parts.proofs.Words.{keyword_by, token_fails}

-- the keyword that begins this
abbrev pub Starts : Start → Keyword → Type 0
Starts (starts.Qualifier q) k = k ≡ qualifier_keyword q
Starts (starts.Word w) k = k ≡ word_keyword w
Starts (starts.Storage c) k = k ≡ storage_keyword c
Starts (starts.Function f) k = k ≡ function_keyword f
Starts (starts.Record r) k = k ≡ record_keyword r
Starts starts.Enumeration k = k ≡ keywords.Enum
Starts starts.Name k = ⊥

starts_by : (k : Keyword) (s : Start) → start_of_keyword k ≡ Some s → Starts s k
starts_by keywords.Auto s e = subst (λ x. Starts x keywords.Auto) (some_is e) refl
starts_by keywords.Break s e = cc
starts_by keywords.Case s e = cc
starts_by keywords.Char s e = subst (λ x. Starts x keywords.Char) (some_is e) refl
starts_by keywords.Const s e = subst (λ x. Starts x keywords.Const) (some_is e) refl
starts_by keywords.Continue s e = cc
starts_by keywords.Default s e = cc
starts_by keywords.Do s e = cc
starts_by keywords.Else s e = cc
starts_by keywords.Enum s e = subst (λ x. Starts x keywords.Enum) (some_is e) refl
starts_by keywords.Extern s e = subst (λ x. Starts x keywords.Extern) (some_is e) refl
starts_by keywords.For s e = cc
starts_by keywords.Goto s e = cc
starts_by keywords.If s e = cc
starts_by keywords.Inline s e = subst (λ x. Starts x keywords.Inline) (some_is e) refl
starts_by keywords.Int s e = subst (λ x. Starts x keywords.Int) (some_is e) refl
starts_by keywords.Long s e = subst (λ x. Starts x keywords.Long) (some_is e) refl
starts_by keywords.Register s e = subst (λ x. Starts x keywords.Register) (some_is e) refl
starts_by keywords.Restrict s e = subst (λ x. Starts x keywords.Restrict) (some_is e) refl
starts_by keywords.Return s e = cc
starts_by keywords.Short s e = subst (λ x. Starts x keywords.Short) (some_is e) refl
starts_by keywords.Signed s e = subst (λ x. Starts x keywords.Signed) (some_is e) refl
starts_by keywords.Sizeof s e = cc
starts_by keywords.Static s e = subst (λ x. Starts x keywords.Static) (some_is e) refl
starts_by keywords.Struct s e = subst (λ x. Starts x keywords.Struct) (some_is e) refl
starts_by keywords.Switch s e = cc
starts_by keywords.Typedef s e = subst (λ x. Starts x keywords.Typedef) (some_is e) refl
starts_by keywords.Union s e = subst (λ x. Starts x keywords.Union) (some_is e) refl
starts_by keywords.Unsigned s e = subst (λ x. Starts x keywords.Unsigned) (some_is e) refl
starts_by keywords.Void s e = subst (λ x. Starts x keywords.Void) (some_is e) refl
starts_by keywords.Volatile s e = subst (λ x. Starts x keywords.Volatile) (some_is e) refl
starts_by keywords.While s e = cc
starts_by keywords.Bool s e = subst (λ x. Starts x keywords.Bool) (some_is e) refl
starts_by keywords.Noreturn s e = subst (λ x. Starts x keywords.Noreturn) (some_is e) refl

qualifier_start : (q : Qualifier) → start_of_keyword (qualifier_keyword q) ≡ Some (starts.Qualifier q)
qualifier_start qualifiers.Const = refl
qualifier_start qualifiers.Volatile = refl
qualifier_start qualifiers.Restrict = refl

word_start : (w : TypeWord) → start_of_keyword (word_keyword w) ≡ Some (starts.Word w)
word_start type_words.Void = refl
word_start type_words.Char = refl
word_start type_words.Short = refl
word_start type_words.Int = refl
word_start type_words.Long = refl
word_start type_words.Signed = refl
word_start type_words.Unsigned = refl
word_start type_words.Bool = refl

storage_start : (c : StorageClass) → start_of_keyword (storage_keyword c) ≡ Some (starts.Storage c)
storage_start storage_classes.Typedef = refl
storage_start storage_classes.Extern = refl
storage_start storage_classes.Static = refl
storage_start storage_classes.Auto = refl
storage_start storage_classes.Register = refl

function_start : (f : FunctionSpecifier) → start_of_keyword (function_keyword f) ≡ Some (starts.Function f)
function_start function_specifiers.Inline = refl
function_start function_specifiers.Noreturn = refl

record_start : (r : RecordKind) → start_of_keyword (record_keyword r) ≡ Some (starts.Record r)
record_start record_kinds.Struct = refl
record_start record_kinds.Union = refl

-- the kinds of token that begin this, where a name is that of a type or not
abbrev pub StartsKind : Bool → Bool → Start → Kind → Type 0
StartsKind inner named (starts.Qualifier q) k = k ≡ kinds.Keyword (qualifier_keyword q)
StartsKind inner named (starts.Word w) k = k ≡ kinds.Keyword (word_keyword w)
StartsKind inner named (starts.Storage c) k = (k ≡ kinds.Keyword (storage_keyword c)) × (inner ≡ false)
StartsKind inner named (starts.Function f) k = (k ≡ kinds.Keyword (function_keyword f)) × (inner ≡ false)
StartsKind inner named (starts.Record r) k = k ≡ kinds.Keyword (record_keyword r)
StartsKind inner named starts.Enumeration k = k ≡ kinds.Keyword keywords.Enum
StartsKind inner named starts.Name k = (k ≡ kinds.Identifier) × (named ≡ true)

keyword_kept : (inner named : Bool) (k : Keyword) (s x : Start) → Starts s k → kept inner s ≡ Some x → StartsKind inner named x (kinds.Keyword k)
keyword_kept inner named k (starts.Qualifier q) x e f = subst (λ y. StartsKind inner named y (kinds.Keyword k)) (some_is f) (ap kinds.Keyword e)
keyword_kept inner named k (starts.Word w) x e f = subst (λ y. StartsKind inner named y (kinds.Keyword k)) (some_is f) (ap kinds.Keyword e)
keyword_kept true named k (starts.Storage c) x e f = absurd cc
keyword_kept false named k (starts.Storage c) x e f = subst (λ y. StartsKind false named y (kinds.Keyword k)) (some_is f) (ap kinds.Keyword e, refl)
keyword_kept true named k (starts.Function c) x e f = absurd cc
keyword_kept false named k (starts.Function c) x e f = subst (λ y. StartsKind false named y (kinds.Keyword k)) (some_is f) (ap kinds.Keyword e, refl)
keyword_kept inner named k (starts.Record r) x e f = subst (λ y. StartsKind inner named y (kinds.Keyword k)) (some_is f) (ap kinds.Keyword e)
keyword_kept inner named k starts.Enumeration x e f = subst (λ y. StartsKind inner named y (kinds.Keyword k)) (some_is f) (ap kinds.Keyword e)
keyword_kept inner named k starts.Name x e f = absurd e

start_kind : (inner named : Bool) (k : Kind) (x : Start) → (start_by named k >>= kept inner) ≡ Some x → StartsKind inner named x k
start_kind inner true kinds.Identifier x e = subst (λ y. StartsKind inner true y kinds.Identifier) (some_is e) (refl, refl)
start_kind inner false kinds.Identifier x e = absurd cc
start_kind inner named (kinds.Keyword k) x e =
    let a = bind_some (start_of_keyword k) (kept inner) x e in
    keyword_kept inner named k a.0 x (starts_by k a.0 a.1) a.2
start_kind inner named (kinds.Constant c) x e = absurd cc
start_kind inner named (kinds.Character c) x e = absurd cc
start_kind inner named kinds.String x e = absurd cc
start_kind inner named (kinds.Mark m) x e = absurd cc

keyword_gives : (inner named : Bool) (k : Kind) (w : Keyword) (s : Start) → k ≡ kinds.Keyword w → start_of_keyword w ≡ Some s → (start_by named k >>= kept inner) ≡ kept inner s
keyword_gives inner named k w s e f = ap (λ (k : Kind). start_by named k >>= kept inner) e ∙ ap (λ (o : Option Start). o >>= kept inner) f

kind_gives : (inner named : Bool) (k : Kind) (x : Start) → StartsKind inner named x k → (start_by named k >>= kept inner) ≡ Some x
kind_gives inner named k (starts.Qualifier q) e = keyword_gives inner named k (qualifier_keyword q) (starts.Qualifier q) e (qualifier_start q)
kind_gives inner named k (starts.Word w) e = keyword_gives inner named k (word_keyword w) (starts.Word w) e (word_start w)
kind_gives inner named k (starts.Storage c) e = keyword_gives inner named k (storage_keyword c) (starts.Storage c) e.0 (storage_start c) ∙ ap (λ (b : Bool). kept b (starts.Storage c)) e.1
kind_gives inner named k (starts.Function c) e = keyword_gives inner named k (function_keyword c) (starts.Function c) e.0 (function_start c) ∙ ap (λ (b : Bool). kept b (starts.Function c)) e.1
kind_gives inner named k (starts.Record r) e = keyword_gives inner named k (record_keyword r) (starts.Record r) e (record_start r)
kind_gives inner named k starts.Enumeration e = keyword_gives inner named k keywords.Enum starts.Enumeration e refl
kind_gives inner named k starts.Name e = ap (λ (k : Kind). start_by named k >>= kept inner) e.0 ∙ ap (λ (b : Bool). start_by b kinds.Identifier >>= kept inner) e.1

-- a name is that of a type, and no type is specified before it
abbrev pub is_name_in : List ℕ → State → Token → Bool
is_name_in bytes s t = not s.1 && is_type s.0 (text_of bytes t)

pub name_facts : (before type : Bool) → (not before && type) ≡ true → (before ≡ false) × (type ≡ true)
name_facts true type e = absurd cc
name_facts false type e = (refl, e)

pub name_so : (before type : Bool) → before ≡ false → type ≡ true → (not before && type) ≡ true
name_so true type e f = absurd cc
name_so false type e f = f

name_not : (before type : Bool) → (before ≡ false → type ≡ false) → (not before && type) ≡ false
name_not true type e = refl
name_not false type e = e refl

not_name : (before type : Bool) → (not before && type) ≡ false → before ≡ false → type ≡ false
not_name true type e f = absurd cc
not_name false type e f = e

-- a specifier begins at the front
pub record Begins (inner : Bool) (bytes : List ℕ) (s : State) (ts : List Token) (x : Start × Token × List Token) : Type 0 where
  pub is : StartsKind inner (is_name_in bytes s x.1) x.0 x.1.kind
  pub whole : ts ≡ x.1 ∷ x.2

pub start_takes : (inner : Bool) (bytes : List ℕ) (s : State) (ts : List Token) (x : Start × Token × List Token) → start_at inner bytes s ts ≡ Some x → Begins inner bytes s ts x
unfolding start_at
start_takes inner bytes s [] x e = absurd cc
start_takes inner bytes s (t ∷ ts) x e =
    let a = bind_some (start_of inner bytes s t) (λ x. Some (x, t, ts)) x e in
    subst (λ (y : Start × Token × List Token). Begins inner bytes s (t ∷ ts) y) (some_is a.2)
    (record { is = start_kind inner (is_name_in bytes s t) t.kind a.0 a.1; whole = refl })

pub start_gives : (inner : Bool) (bytes : List ℕ) (s : State) (t : Token) (ts : List Token) (x : Start) → StartsKind inner (is_name_in bytes s t) x t.kind → start_at inner bytes s (t ∷ ts) ≡ Some (x, t, ts)
unfolding start_at
start_gives inner bytes s t ts x e = ap (λ (o : Option Start). o >>= λ x. Some (x, t, ts)) (kind_gives inner (is_name_in bytes s t) t.kind x e)

-- a token of a kind that begins none
pub start_fails : (inner : Bool) (bytes : List ℕ) (s : State) (t : Token) (ts : List Token) (k : Kind) → t.kind ≡ k → start_by (is_name_in bytes s t) k ≡ None → start_at inner bytes s (t ∷ ts) ≡ None
unfolding start_at
start_fails inner bytes s t ts k e f = ap (λ (o : Option Start). (o >>= kept inner) >>= λ x. Some (x, t, ts)) (ap (start_by (is_name_in bytes s t)) e ∙ f)

pub name_fails : (inner : Bool) (bytes : List ℕ) (s : State) (t : Token) (ts : List Token) → t.kind ≡ kinds.Identifier → (s.1 ≡ false → is_type s.0 (text_of bytes t) ≡ false) → start_at inner bytes s (t ∷ ts) ≡ None
name_fails inner bytes s t ts e f =
    start_fails inner bytes s t ts kinds.Identifier e
    (ap (λ (b : Bool). cond b (Some starts.Name) None) (name_not s.1 (is_type s.0 (text_of bytes t)) f))

abbrev found : Token → List Token → Option Start → Option (Start × Token × List Token)
found t ts o = o >>= λ x. Some (x, t, ts)

if_none : (b : Bool) (inner : Bool) (t : Token) (ts : List Token) → found t ts (cond b (Some starts.Name) None >>= kept inner) ≡ None → b ≡ false
if_none true inner t ts e = absurd cc
if_none false inner t ts e = refl

-- a name that begins none
pub no_name : (inner : Bool) (bytes : List ℕ) (s : State) (ts others : List Token) (t : Token) → ts ≡ t ∷ others → t.kind ≡ kinds.Identifier → start_at inner bytes s ts ≡ None → s.1 ≡ false → is_type s.0 (text_of bytes t) ≡ false
unfolding start_at
no_name inner bytes s ts others t w e f =
    let g : found t others (start_by (is_name_in bytes s t) t.kind >>= kept inner) ≡ None = sym (ap (start_at inner bytes s) w) ∙ f in
    let h : found t others (start_by (is_name_in bytes s t) kinds.Identifier >>= kept inner) ≡ None = sym (ap (λ (k : Kind). found t others (start_by (is_name_in bytes s t) k >>= kept inner)) e) ∙ g in
    not_name s.1 (is_type s.0 (text_of bytes t)) (if_none (is_name_in bytes s t) inner t others h)

starts_no_mark : (inner named : Bool) (m : Mark) (x : Start) (k : Kind) → StartsKind inner named x k → is_mark m k ≡ false
starts_no_mark inner named m (starts.Qualifier q) k e = ap (is_mark m) e
starts_no_mark inner named m (starts.Word w) k e = ap (is_mark m) e
starts_no_mark inner named m (starts.Storage c) k e = ap (is_mark m) e.0
starts_no_mark inner named m (starts.Function c) k e = ap (is_mark m) e.0
starts_no_mark inner named m (starts.Record r) k e = ap (is_mark m) e
starts_no_mark inner named m starts.Enumeration k e = ap (is_mark m) e
starts_no_mark inner named m starts.Name k e = ap (is_mark m) e.0

-- no mark begins a specifier
pub start_no_mark : (m : Mark) (inner : Bool) (bytes : List ℕ) (s : State) (ts : List Token) (x : Start × Token × List Token) → start_at inner bytes s ts ≡ Some x → token_at (is_mark m) ts ≡ None
start_no_mark m inner bytes s ts x e =
    let b = start_takes inner bytes s ts x e in
    ap (token_at (is_mark m)) b.whole ∙ token_fails (is_mark m) x.1 x.2 (starts_no_mark inner (is_name_in bytes s x.1) m x.0 x.1.kind b.is)

starts_no_keyword : (inner : Bool) (bytes : List ℕ) (s : State) (w : Keyword) (x : Start) (t : Token) (ts : List Token) (b : Bool) → start_of_keyword w ≡ None → start_at inner bytes s (t ∷ ts) ≡ Some (x, t, ts) → is_keyword w t.kind ≡ b → is_keyword w t.kind ≡ false
starts_no_keyword inner bytes s w x t ts true e f g = let h = sym (start_fails inner bytes s t ts (kinds.Keyword w) (keyword_by w t.kind g) e) ∙ f in absurd cc
starts_no_keyword inner bytes s w x t ts false e f g = g

-- nor does a keyword that begins none
pub start_no_keyword : (w : Keyword) (inner : Bool) (bytes : List ℕ) (s : State) (ts : List Token) (x : Start × Token × List Token) → start_of_keyword w ≡ None → start_at inner bytes s ts ≡ Some x → token_at (is_keyword w) ts ≡ None
start_no_keyword w inner bytes s ts x e f =
    let b = start_takes inner bytes s ts x f in
    ap (token_at (is_keyword w)) b.whole
    ∙ token_fails (is_keyword w) x.1 x.2 (starts_no_keyword inner bytes s w x.0 x.1 x.2 (is_keyword w x.1.kind) e (sym (ap (start_at inner bytes s) b.whole) ∙ f) refl)
