-- Marks, keywords and names at the front of tokens.
use Rattle.std.proofs.Common.{◌≡◌, List, [], ◌∷◌, Bool, true, false, cond, Some, None, refl, ap, sym, subst, ◌∙◌}
use Rattle.std.specs.Str.{bytes_eq}
use Rattle.std.proofs.lemmas.Option.{cond_some}
use Rattle.std.proofs.lemmas.Slice.Eq.{bytes_eq-Decides}
use Rattle.c_token.specs.declared.token.Token.{Token}
use Rattle.c_token.specs.declared.token.Kind.{Kind}
use Rattle.c_token.specs.declared.token.Kind.TheVariants as kinds
use Rattle.c_token.specs.declared.token.Keyword.{Keyword}
use Rattle.c_token.specs.declared.token.Mark.{Mark}
use Rattle.c_token.specs.Spelling.{keyword_text, mark_text, keyword_of}
use Rattle.c_token.proofs.Spellings.{keyword_back}
use Rattle.c_parse_expr.specs.Reading.{is_mark}
use Rattle.c_parse_expr.specs.inner.Reading.{is_identifier}
pub use Rattle.c_parse_expr.proofs.Marks.{mark_by}
use Rattle.c_parse_parts.specs.inner.Reading.{Read, is_keyword, token_at}
use Rattle.c_parse_parts.proofs.Lists.{some_is}

-- keywords of one text are the same keyword
same_keyword : (a b : Keyword) → bytes_eq (keyword_text a) (keyword_text b) ≡ true → a ≡ b
same_keyword a b e =
    some_is (sym (keyword_back a) ∙ ap keyword_of ((bytes_eq-Decides (keyword_text a) (keyword_text b)).0 e) ∙ keyword_back b)

pub keyword_by : (w : Keyword) (k : Kind) → is_keyword w k ≡ true → k ≡ kinds.Keyword w
keyword_by w kinds.Identifier e = cc
keyword_by w (kinds.Keyword k) e = ap kinds.Keyword (same_keyword k w e)
keyword_by w (kinds.Constant c) e = cc
keyword_by w (kinds.Character c) e = cc
keyword_by w kinds.String e = cc
keyword_by w (kinds.Mark n) e = cc

pub identifier_by : (k : Kind) → is_identifier k ≡ true → k ≡ kinds.Identifier
identifier_by kinds.Identifier e = refl
identifier_by (kinds.Keyword k) e = cc
identifier_by (kinds.Constant c) e = cc
identifier_by (kinds.Character c) e = cc
identifier_by kinds.String e = cc
identifier_by (kinds.Mark n) e = cc

-- of two tests that pass at one kind, where none passes at both kinds
pub mark_so : (m : Mark) (k : Kind) → k ≡ kinds.Mark m → is_mark m k ≡ true
mark_so m k e = ap (is_mark m) e ∙ (bytes_eq-Decides (mark_text m) (mark_text m)).1 refl

pub keyword_so : (w : Keyword) (k : Kind) → k ≡ kinds.Keyword w → is_keyword w k ≡ true
keyword_so w k e = ap (is_keyword w) e ∙ (bytes_eq-Decides (keyword_text w) (keyword_text w)).1 refl

-- what a test answers at a kind
pub passes_at : (p : Kind → Bool) (k l : Kind) (b : Bool) → k ≡ l → p l ≡ b → p k ≡ b
passes_at p k l b e f = ap p e ∙ f

-- a token at the front
pub record Front (P : Token → Type 0) (ts : List Token) (x : Token × List Token) : Type 0 where
  pub is : P x.0
  pub whole : ts ≡ x.0 ∷ x.1

token_takes : (p : Kind → Bool) (ts : List Token) (x : Token × List Token) → token_at p ts ≡ Some x → Front (λ t. p t.kind ≡ true) ts x
unfolding token_at
token_takes p [] x e = absurd cc
token_takes p (t ∷ ts) x e =
    let f = cond_some (p t.kind) (t, ts) x e in
    subst (λ (y : Token × List Token). Front (λ t. p t.kind ≡ true) (t ∷ ts) y) f.1 (record { is = f.0; whole = refl })

pub mark_takes : (m : Mark) (ts : List Token) (x : Token × List Token) → token_at (is_mark m) ts ≡ Some x → Front (λ t. t.kind ≡ kinds.Mark m) ts x
mark_takes m ts x e = let f = token_takes (is_mark m) ts x e in record { is = mark_by m x.0.kind f.is; whole = f.whole }

pub keyword_takes : (w : Keyword) (ts : List Token) (x : Token × List Token) → token_at (is_keyword w) ts ≡ Some x → Front (λ t. t.kind ≡ kinds.Keyword w) ts x
keyword_takes w ts x e = let f = token_takes (is_keyword w) ts x e in record { is = keyword_by w x.0.kind f.is; whole = f.whole }

pub identifier_takes : (ts : List Token) (x : Token × List Token) → token_at is_identifier ts ≡ Some x → Front (λ t. t.kind ≡ kinds.Identifier) ts x
identifier_takes ts x e = let f = token_takes is_identifier ts x e in record { is = identifier_by x.0.kind f.is; whole = f.whole }

pub token_gives : (p : Kind → Bool) (t : Token) (ts : List Token) → p t.kind ≡ true → token_at p (t ∷ ts) ≡ Some (t, ts)
unfolding token_at
token_gives p t ts e = ap (λ (b : Bool). cond {A = Read Token} b (Some (t, ts)) None) e

pub token_fails : (p : Kind → Bool) (t : Token) (ts : List Token) → p t.kind ≡ false → token_at p (t ∷ ts) ≡ None
unfolding token_at
token_fails p t ts e = ap (λ (b : Bool). cond {A = Read Token} b (Some (t, ts)) None) e

pub mark_gives : (m : Mark) (t : Token) (ts : List Token) → t.kind ≡ kinds.Mark m → token_at (is_mark m) (t ∷ ts) ≡ Some (t, ts)
mark_gives m t ts e = token_gives (is_mark m) t ts (mark_so m t.kind e)

pub keyword_gives : (w : Keyword) (t : Token) (ts : List Token) → t.kind ≡ kinds.Keyword w → token_at (is_keyword w) (t ∷ ts) ≡ Some (t, ts)
keyword_gives w t ts e = token_gives (is_keyword w) t ts (keyword_so w t.kind e)

pub identifier_gives : (t : Token) (ts : List Token) → t.kind ≡ kinds.Identifier → token_at is_identifier (t ∷ ts) ≡ Some (t, ts)
identifier_gives t ts e = token_gives is_identifier t ts (ap is_identifier e)
