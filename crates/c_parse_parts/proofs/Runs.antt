-- Tokens at the front that spell something.
use Rattle.std.proofs.Common.{◌≡◌, ◌≤◌, ℕ, List, [], ◌∷◌, ◌++◌, Bool, true, false, Some, refl, ap, sym, ◌∙◌, inl, inr}
use Rattle.std.proofs.lemmas.List.{append_assoc}
use Rattle.c_token.specs.declared.token.Token.{Token}
use Rattle.c_token.specs.declared.token.Kind.TheVariants as kinds
use Rattle.c_token.specs.declared.token.Mark.{Mark}
use Rattle.c_token.specs.declared.token.Mark.TheVariants as marks
use Rattle.c_tree.specs.Spelling.{Behind, Then, IsMark}
use Rattle.c_tree.specs.Files.{Closes}
use Rattle.c_parse_expr.specs.inner.Many.{◌>>=◌}
use Rattle.c_parse_expr.specs.Reading.{is_mark}
use Rattle.c_parse_parts.specs.inner.Reading.{token_at, comma_at, shut_at, ended_at}
use Rattle.c_parse_parts.proofs.Lists.{some_is, bind_some, either_of}
use Rattle.c_parse_parts.proofs.Words.{mark_takes}

-- tokens at the front, what they spell, and that its levels are at most n
pub record Run (Spelled : List Token → Type 0) (Well : Type 0) (levels n : ℕ) (tokens rest : List Token) : Type 0 where
  pub own : List Token
  pub spelled : Spelled own
  pub front : tokens ≡ own ++ rest
  pub well : Well
  pub deep : levels ≤ n

-- two runs, one after the other
pub seam : (ts own others rest back : List Token) → ts ≡ own ++ others → others ≡ back ++ rest → ts ≡ (own ++ back) ++ rest
seam ts own others rest back e f = e ∙ ap (λ (xs : List Token). own ++ xs) f ∙ sym (append_assoc own back rest)

-- behind a token
pub in_front_of : (t : Token) (all ts own rest : List Token) → all ≡ t ∷ ts → ts ≡ own ++ rest → all ≡ (t ∷ own) ++ rest
in_front_of t all ts own rest e f = e ∙ ap (λ (xs : List Token). t ∷ xs) f

-- the first item of a list, or one behind a comma
abbrev pub Separated : Bool → (List Token → Type 0) → List Token → Type 0
Separated true A = A
Separated false A = Behind (IsMark marks.Comma) A

pub separated_joins : (first : Bool) (A B : List Token → Type 0) (xs ys : List Token) → Separated first A xs → B ys → Separated first (Then A B) (xs ++ ys)
separated_joins true A B xs ys a b = record { left = xs; right = ys; first = a; second = b; whole = refl }
separated_joins false A B xs ys a b = record {
  token = a.token;
  rest = a.rest ++ ys;
  is = a.is;
  behind = record { left = a.rest; right = ys; first = a.behind; second = b; whole = refl };
  whole = ap (λ (zs : List Token). zs ++ ys) a.whole;
}

-- what follows a comma or nothing
pub comma_takes : (first : Bool) (A : List Token → Type 0) (W : Type 0) (d n : ℕ) (ts mid rest : List Token) → comma_at first ts ≡ Some mid → Run A W d n mid rest → Run (Separated first A) W d n ts rest
unfolding comma_at
comma_takes true A W d n ts mid rest e r = record { own = r.own; spelled = r.spelled; front = some_is e ∙ r.front; well = r.well; deep = r.deep }
comma_takes false A W d n ts mid rest e r =
    let a = bind_some (token_at (is_mark marks.Comma) ts) (λ x. Some x.1) mid e in
    let h = mark_takes marks.Comma ts a.0 a.1 in
    record {
      own = a.0.0 ∷ r.own;
      spelled = record { token = a.0.0; rest = r.own; is = h.is; behind = r.spelled; whole = refl };
      front = h.whole ∙ ap (λ (xs : List Token). a.0.0 ∷ xs) (some_is a.2 ∙ r.front);
      well = r.well;
      deep = r.deep;
    }

-- the brace that closes a list
pub record Shut (first : Bool) (ts rest : List Token) : Type 0 where
  pub own : List Token
  pub closes : Closes marks.RightBrace own
  pub front : ts ≡ own ++ rest
  pub later : first ≡ false

pub shut_takes : (first : Bool) (ts rest : List Token) → shut_at first ts ≡ Some rest → Shut first ts rest
unfolding shut_at
shut_takes true ts rest e = absurd cc
shut_takes false ts rest e =
    elim (either_of (token_at (is_mark marks.RightBrace) ts >>= λ x. Some x.1) (token_at (is_mark marks.Comma) ts >>= λ x. token_at (is_mark marks.RightBrace) x.1 >>= λ y. Some y.1) rest e) [
      | inl f ↦
          let a = bind_some (token_at (is_mark marks.RightBrace) ts) (λ x. Some x.1) rest f in
          let h = mark_takes marks.RightBrace ts a.0 a.1 in
          record {
            own = a.0.0 ∷ [];
            closes = inl (record { token = a.0.0; is = h.is; whole = refl });
            front = h.whole ∙ ap (λ (xs : List Token). a.0.0 ∷ xs) (some_is a.2);
            later = refl;
          }
      | inr f ↦
          let a = bind_some (token_at (is_mark marks.Comma) ts) (λ x. token_at (is_mark marks.RightBrace) x.1 >>= λ y. Some y.1) rest f in
          let b = bind_some (token_at (is_mark marks.RightBrace) a.0.1) (λ y. Some y.1) rest a.2 in
          let h = mark_takes marks.Comma ts a.0 a.1 in
          let i = mark_takes marks.RightBrace a.0.1 b.0 b.1 in
          record {
            own = a.0.0 ∷ (b.0.0 ∷ []);
            closes = inr (record { token = a.0.0; rest = b.0.0 ∷ []; is = h.is; behind = record { token = b.0.0; is = i.is; whole = refl }; whole = refl });
            front = h.whole ∙ ap (λ (xs : List Token). a.0.0 ∷ xs) (i.whole ∙ ap (λ (xs : List Token). b.0.0 ∷ xs) (some_is b.2));
            later = refl;
          }
    ]

-- the mark that ends a list
pub record Ended {T : Type 0} (mark : Mark) (t : T) (ts : List Token) (x : T × List Token) : Type 0 where
  pub token : Token
  pub is : token.kind ≡ kinds.Mark mark
  pub whole : ts ≡ token ∷ x.1
  pub same : t ≡ x.0

pub ended_takes : {T : Type 0} (mark : Mark) (t : T) (ts : List Token) (x : T × List Token) → ended_at mark t ts ≡ Some x → Ended mark t ts x
unfolding ended_at
ended_takes {T} mark t ts x e =
    let a = bind_some (token_at (is_mark mark) ts) (λ x. Some (t, x.1)) x e in
    let h = mark_takes mark ts a.0 a.1 in
    let f : (t, a.0.1) ≡ x = some_is a.2 in
    record {
      token = a.0.0;
      is = h.is;
      whole = h.whole ∙ ap (λ (y : T × List Token). a.0.0 ∷ y.1) f;
      same = ap (λ (y : T × List Token). y.0) f;
    }

-- three runs, grouped otherwise
pub regroup : (A B C : List Token → Type 0) (xs : List Token) → Then (Then A B) C xs → Then A (Then B C) xs
regroup A B C xs s =
    let t = s.first in
    record {
      left = t.left;
      right = t.right ++ s.right;
      first = t.first;
      second = record { left = t.right; right = s.right; first = t.second; second = s.second; whole = refl };
      whole = s.whole ∙ ap (λ (ys : List Token). ys ++ s.right) t.whole ∙ append_assoc t.left t.right s.right;
    }
