-- Lists that are read piece by piece.
use Rattle.std.proofs.Common.{◌≡◌, ◌<◌, ℕ, zero, suc, List, [], ◌∷◌, ◌++◌, length, Option, Some, None, refl, ap, sym, subst, ◌∙◌, arith, inl, inr}
use Rattle.std.specs.Prelude.{◌⊎◌}
use Rattle.c_token.specs.declared.token.Token.{Token}
use Rattle.c_parse_expr.specs.inner.Many.{◌>>=◌}
use Rattle.c_parse_parts.specs.inner.Reading.{Read, or_else, Listing, run_at}

pub some_is : {A : Type 0} {x y : A} → Some x ≡ Some y → x ≡ y
some_is e = cc

pub bind_some : {A B : Type 0} (o : Option A) (f : A → Option B) (y : B) → (o >>= f) ≡ Some y → (x : A) × (o ≡ Some x) × (f x ≡ Some y)
bind_some None f y e = absurd cc
bind_some (Some x) f y e = (x, refl, e)

pub bind_gives : {A B : Type 0} (o : Option A) (f : A → Option B) (x : A) (y : Option B) → o ≡ Some x → f x ≡ y → (o >>= f) ≡ y
bind_gives {A} o f x y e g = ap (λ (p : Option A). p >>= f) e ∙ g

pub bind_none : {A B : Type 0} (o : Option A) (f : A → Option B) → o ≡ None → (o >>= f) ≡ None
bind_none {A} o f e = ap (λ (p : Option A). p >>= f) e

-- pieces in front of others
abbrev pub placed_all : {C A T : Type 0} → (A → T → T) → (C → A) → List C → T → T
placed_all put view [] t = t
placed_all put view (c ∷ cs) t = put (view c) (placed_all put view cs t)

abbrev pub in_front : {C A T : Type 0} → (A → T → T) → (C → A) → List C → Read T → Read T
in_front put view front None = None
in_front put view front (Some x) = Some (placed_all put view front x.0, x.1)

placed_push : {C A T : Type 0} (put : A → T → T) (view : C → A) (cs : List C) (c : C) (t : T) → placed_all put view (cs ++ c ∷ []) t ≡ placed_all put view cs (put (view c) t)
placed_push put view [] c t = refl
placed_push put view (b ∷ bs) c t = ap (put (view b)) (placed_push put view bs c t)

front_push : {C A T : Type 0} (put : A → T → T) (view : C → A) (cs : List C) (c : C) (o : Read T) → in_front put view (cs ++ c ∷ []) o ≡ in_front put view cs (o >>= λ y. Some (put (view c) y.0, y.1))
front_push put view cs c None = refl
front_push {T = T} put view cs c (Some x) = ap (λ (t : T). Some (t, x.1)) (placed_push put view cs c x.0)

pub front_none : {C A T : Type 0} (put : A → T → T) (view : C → A) (cs : List C) (o : Read T) → cs ≡ [] → in_front put view cs o ≡ o
front_none {C} put view cs None e = refl
front_none {C} {T = T} put view cs (Some x) e = ap (λ (xs : List C). Some (placed_all put view xs x.0, x.1)) e

-- what a turn of a loop reads
abbrev pub Left : {S C A T : Type 0} → Listing S A T → (C → A) → ℕ → S → List C → List Token → Read T → Type 0
Left l view m s front ts all = in_front l.put view front (run_at l m s ts) ≡ all

pub run_stops : {S A T : Type 0} (l : Listing S A T) (m : ℕ) (s : S) (ts : List Token) (x : T × List Token) → l.stop s ts ≡ Some x → run_at l (suc m) s ts ≡ Some x
unfolding run_at
run_stops {T = T} l m s ts x e = ap (λ (o : Read T). or_else o (l.item s ts >>= λ x. run_at l m (l.after s x.0) x.1 >>= λ y. Some (l.put x.0 y.0, y.1))) e

run_opens : {S A T : Type 0} (l : Listing S A T) (m : ℕ) (s : S) (ts : List Token) → l.stop s ts ≡ None → run_at l (suc m) s ts ≡ (l.item s ts >>= λ x. run_at l m (l.after s x.0) x.1 >>= λ y. Some (l.put x.0 y.0, y.1))
unfolding run_at
run_opens {T = T} l m s ts e = ap (λ (o : Read T). or_else o (l.item s ts >>= λ x. run_at l m (l.after s x.0) x.1 >>= λ y. Some (l.put x.0 y.0, y.1))) e

run_fails : {S A T : Type 0} (l : Listing S A T) (m : ℕ) (s : S) (ts : List Token) → l.stop s ts ≡ None → l.item s ts ≡ None → run_at l (suc m) s ts ≡ None
run_fails {A = A} l m s ts e f = run_opens l m s ts e ∙ ap (λ (o : Read A). o >>= λ x. run_at l m (l.after s x.0) x.1 >>= λ y. Some (l.put x.0 y.0, y.1)) f

run_turns : {S A T : Type 0} (l : Listing S A T) (m : ℕ) (s : S) (ts mid : List Token) (a : A) → l.stop s ts ≡ None → l.item s ts ≡ Some (a, mid) → run_at l (suc m) s ts ≡ (run_at l m (l.after s a) mid >>= λ y. Some (l.put a y.0, y.1))
run_turns {A = A} l m s ts mid a e f = run_opens l m s ts e ∙ ap (λ (o : Read A). o >>= λ x. run_at l m (l.after s x.0) x.1 >>= λ y. Some (l.put x.0 y.0, y.1)) f

pub run_goes : {S A T : Type 0} (l : Listing S A T) (m : ℕ) (s : S) (ts mid rest : List Token) (a : A) (t : T) → l.stop s ts ≡ None → l.item s ts ≡ Some (a, mid) → run_at l m (l.after s a) mid ≡ Some (t, rest) → run_at l (suc m) s ts ≡ Some (l.put a t, rest)
run_goes {T = T} l m s ts mid rest a t e f g = run_turns l m s ts mid a e f ∙ ap (λ (o : Read T). o >>= λ y. Some (l.put a y.0, y.1)) g

pub closes : {S C A T : Type 0} (l : Listing S A T) (view : C → A) (m : ℕ) (s : S) (front : List C) (ts : List Token) (x : T × List Token) (all : Read T) → length ts < m → l.stop s ts ≡ Some x → Left l view m s front ts all → all ≡ Some (placed_all l.put view front x.0, x.1)
closes l view zero s front ts x all h e f = absurd (omega arith)
closes {T = T} l view (suc m) s front ts x all h e f = sym f ∙ ap (λ (o : Read T). in_front l.put view front o) (run_stops l m s ts x e)

pub fails : {S C A T : Type 0} (l : Listing S A T) (view : C → A) (m : ℕ) (s : S) (front : List C) (ts : List Token) (all : Read T) → length ts < m → l.stop s ts ≡ None → Left l view m s front ts all → l.item s ts ≡ None → all ≡ None
fails l view zero s front ts all h e f g = absurd (omega arith)
fails {T = T} l view (suc m) s front ts all h e f g = sym f ∙ ap (λ (o : Read T). in_front l.put view front o) (run_fails l m s ts e g)

pub goes : {S C A T : Type 0} (l : Listing S A T) (view : C → A) (m : ℕ) (s r : S) (front back : List C) (c : C) (ts rest : List Token) (all : Read T) → length ts < m → length rest < length ts → l.stop s ts ≡ None → Left l view m s front ts all → l.item s ts ≡ Some (view c, rest) → back ≡ front ++ c ∷ [] → r ≡ l.after s (view c) → (m : ℕ) × (length rest < m) × Left l view m r back rest all
goes l view zero s r front back c ts rest all h g e f i b a = absurd (omega arith)
goes {S} {C} {A} {T} l view (suc m) s r front back c ts rest all h g e f i b a = (
  m,
  omega arith,
  ap (λ (cs : List C). in_front l.put view cs (run_at l m r rest)) b
      ∙ ap (λ (q : S). in_front l.put view (front ++ c ∷ []) (run_at l m q rest)) a
      ∙ front_push l.put view front c (run_at l m (l.after s (view c)) rest)
      ∙ sym (sym f ∙ ap (λ (o : Read T). in_front l.put view front o) (run_turns l m s ts rest (view c) e i)),
)

pub either_of : {A : Type 0} (o p : Option A) (x : A) → or_else o p ≡ Some x → (o ≡ Some x) ⊎ (p ≡ Some x)
either_of None p x e = inr e
either_of (Some y) p x e = inl e

-- what is read of a list, where it is known of what ends it, of an item, and of an item in front of others
pub run_takes : {S A T : Type 0} (l : Listing S A T) (P : S → A → List Token → List Token → Type 0) (Q : S → T → List Token → List Token → Type 0) → ((s : S) (ts : List Token) (x : T × List Token) → l.stop s ts ≡ Some x → Q s x.0 ts x.1) → ((s : S) (ts : List Token) (x : A × List Token) → l.item s ts ≡ Some x → P s x.0 ts x.1) → ((s : S) (a : A) (t : T) (ts mid rest : List Token) → P s a ts mid → Q (l.after s a) t mid rest → Q s (l.put a t) ts rest) → (m : ℕ) (s : S) (ts : List Token) (x : T × List Token) → run_at l m s ts ≡ Some x → Q s x.0 ts x.1
unfolding run_at
run_takes l P Q stops items joins zero s ts x e = absurd cc
run_takes {T = T} l P Q stops items joins (suc m) s ts x e =
    elim (either_of (l.stop s ts) (l.item s ts >>= λ x. run_at l m (l.after s x.0) x.1 >>= λ y. Some (l.put x.0 y.0, y.1)) x e) [
      | inl f ↦ stops s ts x f
      | inr f ↦
          let a = bind_some (l.item s ts) (λ x. run_at l m (l.after s x.0) x.1 >>= λ y. Some (l.put x.0 y.0, y.1)) x f in
          let b = bind_some (run_at l m (l.after s a.0.0) a.0.1) (λ y. Some (l.put a.0.0 y.0, y.1)) x a.2 in
          subst (λ (y : T × List Token). Q s y.0 ts y.1) (some_is b.2)
          (joins s a.0.0 b.0.0 ts a.0.1 b.0.1 (items s ts a.0 a.1) (run_takes l P Q stops items joins m (l.after s a.0.0) a.0.1 b.0 b.1))
    ]
