-- Steps of reading, one at a time.
use Rattle.std.proofs.Common.{◌≡◌, ◌≤◌, ℕ, List, [], ◌∷◌, Bool, true, false, ◌&&◌, ◌||◌, cond, Option, Some, None, refl, ap, subst, ◌∙◌}
use Rattle.std.specs.Prelude.{IfSome, nat_le}
use Rattle.std.proofs.lemmas.Bool.{leb-true, le-leb}
use Rattle.std.proofs.lemmas.Option.{cond_some}
use Rattle.c_token.specs.declared.token.Token.{Token}
use Rattle.c_token.specs.declared.token.Kind.{Kind}
use Rattle.c_token.specs.declared.token.Kind.TheVariants as kinds
use Rattle.c_token.specs.declared.token.Mark.{Mark}
use Rattle.c_parse_expr.specs.declared.table.Suffix.{Suffix}
use Rattle.c_parse_expr.specs.Tables.{suffix_of, strength_behind, least_left}
use Rattle.c_parse_expr.specs.inner.Many.{◌>>=◌}
use Rattle.c_parse_expr.specs.Reading.{is_mark, goes_on}
use Rattle.c_parse_expr.specs.inner.Reading.{behind, kept, next_at}
use Rattle.c_parse_expr.specs.Standing.{suffix_at}

pub bind_some : {A B : Type 0} (o : Option A) (f : A → Option B) (y : B) → (o >>= f) ≡ Some y → (x : A) × (o ≡ Some x) × (f x ≡ Some y)
bind_some None f y e = absurd cc
bind_some (Some x) f y e = (x, refl, e)

-- a mark at the front
pub record Heads (mark : Mark) (ts rest : List Token) : Type 0 where
  pub token : Token
  pub is : token.kind ≡ kinds.Mark mark
  pub whole : ts ≡ token ∷ rest

pub behind_takes : (mark : Mark) → ((k : Kind) → is_mark mark k ≡ true → k ≡ kinds.Mark mark) → (ts rest : List Token) → behind mark ts ≡ Some rest → Heads mark ts rest
unfolding behind
behind_takes mark law [] rest e = absurd cc
behind_takes mark law (t ∷ ts) rest e =
    let f = cond_some (is_mark mark t.kind) ts rest e in
    record { token = t; is = law t.kind f.0; whole = ap (λ (xs : List Token). t ∷ xs) f.1 }

pub behind_gives : (mark : Mark) (t : Token) (ts : List Token) (b : Bool) → is_mark mark t.kind ≡ b → behind mark (t ∷ ts) ≡ cond b (Some ts) None
unfolding behind
behind_gives mark t ts b e = ap (λ (x : Bool). cond x (Some ts) None) e

-- a suffix at the front that goes on
pub record Goes (k l : ℕ) (ts : List Token) (x : Suffix × ℕ × List Token) : Type 0 where
  pub token : Token
  pub suffix : suffix_of token.kind ≡ Some x.0
  pub line : token.line ≡ x.1
  pub whole : ts ≡ token ∷ x.2
  pub goes : goes_on k l x.0 ≡ true

kept_some : (k l : ℕ) (t : Token) (ts : List Token) (o : Option Suffix) (x : Suffix × ℕ × List Token) → suffix_of t.kind ≡ o → kept k l t.line ts o ≡ Some x → Goes k l (t ∷ ts) x
kept_some k l t ts None x f e = absurd cc
kept_some k l t ts (Some s) x f e =
    let g = cond_some (goes_on k l s) (s, t.line, ts) x e in
    subst (λ y. Goes k l (t ∷ ts) y) g.1 (record { token = t; suffix = f; line = refl; whole = refl; goes = g.0 })

pub next_some : (k l : ℕ) (ts : List Token) (x : Suffix × ℕ × List Token) → next_at k l ts ≡ Some x → Goes k l ts x
unfolding next_at
next_some k l [] x e = absurd cc
next_some k l (t ∷ ts) x e = kept_some k l t ts (suffix_of t.kind) x refl e

pub none_by : {A : Type 0} (b : Bool) (x : A) → cond b (Some x) None ≡ None → b ≡ false
none_by true x e = cc
none_by false x e = refl

kept_none : (k l line : ℕ) (ts : List Token) (o : Option Suffix) → kept k l line ts o ≡ None → IfSome o (λ s. goes_on k l s ≡ false)
kept_none k l line ts None e = tt
kept_none k l line ts (Some s) e = none_by (goes_on k l s) (s, line, ts) e

pub next_none : (k l : ℕ) (ts : List Token) → next_at k l ts ≡ None → IfSome (suffix_at ts) (λ s. goes_on k l s ≡ false)
unfolding next_at
next_none k l [] e = tt
next_none k l (t ∷ ts) e = kept_none k l t.line ts (suffix_of t.kind) e

kept_ends : (k l line : ℕ) (ts : List Token) (o : Option Suffix) → IfSome o (λ s. goes_on k l s ≡ false) → kept k l line ts o ≡ None
kept_ends k l line ts None e = refl
kept_ends k l line ts (Some s) e = ap (λ (b : Bool). cond {A = Option (Suffix × ℕ × List Token)} b (Some (s, line, ts)) None) e

pub next_ends : (k l : ℕ) (ts : List Token) → IfSome (suffix_at ts) (λ s. goes_on k l s ≡ false) → next_at k l ts ≡ None
unfolding next_at
next_ends k l [] e = refl
next_ends k l (t ∷ ts) e = kept_ends k l t.line ts (suffix_of t.kind) e

pub next_goes : (k l : ℕ) (t : Token) (ts : List Token) (s : Suffix) → suffix_of t.kind ≡ Some s → goes_on k l s ≡ true → next_at k l (t ∷ ts) ≡ Some (s, t.line, ts)
unfolding next_at
next_goes k l t ts s e f =
    ap (λ (o : Option Suffix). kept k l t.line ts o) e ∙ ap (λ (b : Bool). cond {A = Option (Suffix × ℕ × List Token)} b (Some (s, t.line, ts)) None) f

pub and_true : (a b : Bool) → (a && b) ≡ true → (a ≡ true) × (b ≡ true)
and_true true b e = (refl, e)
and_true false b e = cc

pub goes_facts : (k l : ℕ) (s : Suffix) → goes_on k l s ≡ true → (k ≤ strength_behind s) × (least_left s ≤ l)
goes_facts k l s e =
    let f = and_true (nat_le k (strength_behind s)) (nat_le (least_left s) l) e in
    (leb-true k (strength_behind s) f.0, leb-true (least_left s) l f.1)

pub goes_so : (k l : ℕ) (s : Suffix) → k ≤ strength_behind s → least_left s ≤ l → goes_on k l s ≡ true
goes_so k l s f g =
    ap (λ (x : Bool). x && nat_le (least_left s) l) (le-leb k (strength_behind s) f) ∙ le-leb (least_left s) l g

pub all_some : {A : Type 0} (o : Option A) (P : A → Type 0) → ((x : A) → P x) → IfSome o P
all_some None P f = tt
all_some (Some x) P f = f x

pub both_false : (o : Option Suffix) (p q : Suffix → Bool) → IfSome o (λ s. p s ≡ false) → IfSome o (λ s. q s ≡ false) → IfSome o (λ s. (p s || q s) ≡ false)
both_false None p q f g = tt
both_false (Some s) p q f g = ap (λ (b : Bool). b || q s) f ∙ g

or_false : (a b : Bool) → (a || b) ≡ false → (a ≡ false) × (b ≡ false)
or_false true b e = cc
or_false false b e = (refl, e)

pub first_false : (o : Option Suffix) (p q : Suffix → Bool) → IfSome o (λ s. (p s || q s) ≡ false) → IfSome o (λ s. p s ≡ false)
first_false None p q f = tt
first_false (Some s) p q f = (or_false (p s) (q s) f).0

pub second_false : (o : Option Suffix) (p q : Suffix → Bool) → IfSome o (λ s. (p s || q s) ≡ false) → IfSome o (λ s. q s ≡ false)
second_false None p q f = tt
second_false (Some s) p q f = (or_false (p s) (q s) f).1
