-- Items in a row.
use Rattle.std.proofs.Common.{map, ◌≡◌, ◌<◌, ℕ, zero, suc, List, [], ◌∷◌, ◌++◌, length, Option, Some, None, refl, ap, sym, subst, ◌∙◌, arith}
use Rattle.std.proofs.lemmas.List.{append-nil, append_assoc, map-append}
use Rattle.c_token.specs.declared.token.Token.{Token}
use Rattle.c_parse_expr.specs.inner.Many.{◌>>=◌, Item, gone_on, many_at}
use Rattle.c_parse_expr.proofs.Marks.{some_is}
use Rattle.c_parse_expr.proofs.Steps.{bind_some}

-- The items stand at the front one after the other, and none behind them.
abbrev pub Run : {S A : Type 0} → Item S A → S → List A → List Token → List Token → Type 0
Run item s [] ts rest = (item s ts ≡ Some None) × (ts ≡ rest)
Run {S = S} {A = A} item s (x ∷ xs) ts rest = (state : S) × (mid : List Token) × (item s ts ≡ Some (Some (x, state, mid))) × Run item state xs mid rest

run_by : {S A : Type 0} (item : Item S A) (go : S → List Token → Option (List A × List Token)) → ((s : S) (ts : List Token) (y : List A × List Token) → go s ts ≡ Some y → Run item s y.0 ts y.1)
    → (s : S) (ts : List Token) (y : List A × List Token) (o : Option (A × S × List Token)) → item s ts ≡ Some o → gone_on go ts o ≡ Some y → Run item s y.0 ts y.1
run_by item go on s ts y None is e = subst (λ z. Run item s z.0 ts z.1) (some_is e) (is, refl)
run_by item go on s ts y (Some x) is e =
    let a = bind_some (go x.1 x.2) (λ y. Some (x.0 ∷ y.0, y.1)) y e in
    subst (λ z. Run item s z.0 ts z.1) (some_is a.2) (x.1, x.2, is, on x.1 x.2 a.0 a.1)

-- what is read in a row stands there
pub many_run : {S A : Type 0} (item : Item S A) (m : ℕ) (s : S) (ts : List Token) (y : List A × List Token) → many_at item m s ts ≡ Some y → Run item s y.0 ts y.1
unfolding many_at
many_run item zero s ts y e = absurd cc
many_run item (suc m) s ts y e =
    let a = bind_some (item s ts) (gone_on (many_at item m) ts) y e in
    run_by item (many_at item m) (many_run item m) s ts y a.0 a.1 a.2

-- what stands there in a row is read
pub run_many : {S A : Type 0} (item : Item S A) (m : ℕ) (s : S) (xs : List A) (ts rest : List Token) → Run item s xs ts rest → length xs < m → many_at item m s ts ≡ Some (xs, rest)
unfolding many_at
run_many item zero s xs ts rest r h = absurd (omega arith)
run_many item (suc m) s [] ts rest r h =
    ap (λ o. o >>= gone_on (many_at item m) ts) r.0 ∙ ap (λ (us : List Token). Some ([], us)) r.1
run_many {A = A} item (suc m) s (x ∷ xs) ts rest r h =
    ap (λ o. o >>= gone_on (many_at item m) ts) r.2
    ∙ ap (λ (o : Option (List A × List Token)). o >>= λ y. Some (x ∷ y.0, y.1)) (run_many item m r.0 xs r.1 rest r.3 (omega arith))

abbrev pub fronted : {A : Type 0} → List A → Option (List A × List Token) → Option (List A × List Token)
fronted front None = None
fronted front (Some x) = Some (front ++ x.0, x.1)

-- what is left to read behind the items that were read
abbrev pub Remains : {S A : Type 0} → Item S A → ℕ → S → List A → List Token → Option (List A × List Token) → Type 0
Remains item m s front ts all = fronted front (many_at item m s ts) ≡ all

pub begins : {A : Type 0} (o : Option (List A × List Token)) → fronted [] o ≡ o
begins None = refl
begins (Some x) = refl

pub stops : {S A : Type 0} (item : Item S A) (m : ℕ) (s : S) (front : List A) (ts : List Token) (all : Option (List A × List Token)) → length ts < m → item s ts ≡ Some None → Remains item m s front ts all → all ≡ Some (front, ts)
unfolding many_at
stops item zero s front ts all h is e = absurd (omega arith)
stops {A = A} item (suc m) s front ts all h is e =
    sym e ∙ ap (λ o. fronted front (o >>= gone_on (many_at item m) ts)) is ∙ ap (λ (xs : List A). Some (xs, ts)) (append-nil front)

pub fails : {S A : Type 0} (item : Item S A) (m : ℕ) (s : S) (front : List A) (ts : List Token) (all : Option (List A × List Token)) → length ts < m → item s ts ≡ None → Remains item m s front ts all → all ≡ None
unfolding many_at
fails item zero s front ts all h is e = absurd (omega arith)
fails item (suc m) s front ts all h is e = sym e ∙ ap (λ o. fronted front (o >>= gone_on (many_at item m) ts)) is

onward : {A : Type 0} (front : List A) (x : A) (o : Option (List A × List Token)) → fronted (front ++ x ∷ []) o ≡ fronted front (o >>= λ y. Some (x ∷ y.0, y.1))
onward front x None = refl
onward {A = A} front x (Some y) = ap (λ (xs : List A). Some (xs, y.1)) (append_assoc front (x ∷ []) y.0)

pub goes : {S A : Type 0} (item : Item S A) (m : ℕ) (s state : S) (front : List A) (x : A) (ts rest : List Token) (all : Option (List A × List Token)) → length ts < m → length rest < length ts → item s ts ≡ Some (Some (x, state, rest)) → Remains item m s front ts all
    → (m : ℕ) × (length rest < m) × Remains item m state (front ++ x ∷ []) rest all
unfolding many_at
goes item zero s state front x ts rest all h l is e = absurd (omega arith)
goes item (suc m) s state front x ts rest all h l is e = (
  m,
  omega arith,
  onward front x (many_at item m state rest) ∙ sym (ap (λ o. fronted front (o >>= gone_on (many_at item m) ts)) is) ∙ e,
)

pub pushed : {S A B : Type 0} (item : Item S A) (f : B → A) (m : ℕ) (s state : S) (ys zs : List B) (y : B) (ts rest : List Token) (all : Option (List A × List Token)) → length ts < m → length rest < length ts → item s ts ≡ Some (Some (f y, state, rest)) → zs ≡ ys ++ y ∷ [] → Remains item m s (map f ys) ts all
    → (m : ℕ) × (length rest < m) × Remains item m state (map f zs) rest all
pushed {A = A} {B = B} item f m s state ys zs y ts rest all h l is e r =
    let g = goes item m s state (map f ys) (f y) ts rest all h l is r in
    (g.0, g.1, ap (λ (xs : List A). fronted xs (many_at item g.0 state rest)) (ap (λ (bs : List B). map f bs) e ∙ map-append f ys (y ∷ [])) ∙ g.2)

-- the first item stands in front of those that are read behind it
pub front_first : {A B : Type 0} (f : B → A) (ys : List B) (y : B) (x : A) (o : Option (List A × List Token)) → ys ≡ [] ++ y ∷ [] → f y ≡ x → (o >>= λ z. Some (x ∷ z.0, z.1)) ≡ fronted (map f ys) o
front_first f ys y x None e g = refl
front_first {A = A} {B = B} f ys y x (Some z) e g =
    ap (λ (a : A). Some (a ∷ z.0, z.1)) (sym g) ∙ ap (λ (bs : List B). Some (map f bs ++ z.0, z.1)) (sym e)
