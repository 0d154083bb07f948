-- Members of lists, and lists of events that are sorted.
use Rattle.std.proofs.Common.{◌≡◌, ◌<◌, ℕ, Bool, true, false, cond, List, [], ◌∷◌, ◌⊎◌, inl, inr, refl, sym, ap, subst, ◌∙◌, arith, nat_eq}
use Rattle.std.proofs.lemmas.Bool.{eqb-true, eqb-false, eq-eqb, ne_eqb}
use Rattle.weave.specs.Candidate.{chosen, Candidate, In, Each, Before}
use Rattle.weave.specs.Order.{Sorted}

module _ {X : Type 0} where
  pub each_in : (P : X → Type 0) (xs : List X) (x : X) → Each P xs → In x xs → P x
  each_in P [] x h i = absurd i
  each_in P (y ∷ ys) x h (inl e) = subst P (sym e) h.0
  each_in P (y ∷ ys) x h (inr i) = each_in P ys x h.1 i

  pub each_from : {P : X → Type 0} (xs : List X) → ((x : X) → In x xs → P x) → Each P xs
  each_from [] h = tt
  each_from (x ∷ xs) h = (h x (inl refl), each_from xs (λ y i. h y (inr i)))

  pub each_map : {P Q : X → Type 0} (xs : List X) → ((x : X) → P x → Q x) → Each P xs → Each Q xs
  each_map [] f h = tt
  each_map (x ∷ xs) f h = (f x h.0, each_map xs f h.1)

-- the numbers that order two events
abbrev pub Less : (a b s t p q : ℕ) → Type 0
Less a b s t p q = (a < b) ⊎ ((a ≡ b) × ((s < t) ⊎ ((s ≡ t) × (p < q))))

pub less_trans : (a b c s t u p q r : ℕ) → Less a b s t p q → Less b c t u q r → Less a c s u p r
less_trans a b c s t u p q r (inl h) (inl k) = inl (omega arith)
less_trans a b c s t u p q r (inl h) (inr k) = inl (omega arith)
less_trans a b c s t u p q r (inr h) (inl k) = inl (omega arith)
less_trans a b c s t u p q r (inr h) (inr k) = inr (h.0 ∙ k.0, by h.1 k.1)
  where
    by : (s < t) ⊎ ((s ≡ t) × (p < q)) → (t < u) ⊎ ((t ≡ u) × (q < r)) → (s < u) ⊎ ((s ≡ u) × (p < r))
    by (inl h) (inl k) = inl (omega arith)
    by (inl h) (inr k) = inl (omega arith)
    by (inr h) (inl k) = inl (omega arith)
    by (inr h) (inr k) = inr (h.0 ∙ k.0, omega arith)

pub less_once : (a b s t p q : ℕ) → Less a b s t p q → Less b a t s q p → ⊥
less_once a b s t p q h k = omega arith

module _ {Id : Type 0} (c : Candidate Id) where
  pub before_trans : (x y z : Id) → Before c x y → Before c y z → Before c x z
  before_trans x y z h k = less_trans (c.clock x) (c.clock y) (c.clock z) (c.thread x) (c.thread y) (c.thread z) (c.place x) (c.place y) (c.place z) h k

  pub before_once : (x y : Id) → Before c x y → Before c y x → ⊥
  before_once x y h k = less_once (c.clock x) (c.clock y) (c.thread x) (c.thread y) (c.place x) (c.place y) h k

  pub before_self : (x y : Id) → x ≡ y → Before c x y → ⊥
  before_self x y e h = before_once x y h (subst (λ (z : Id). Before c z x) e (subst (λ (z : Id). Before c x z) (sym e) h))

  -- ---- two sorted lists of the same events are one

  heads : (x y : Id) (xs ys : List Id) → Each (Before c x) xs → Each (Before c y) ys → (x ≡ y) ⊎ In x ys → (y ≡ x) ⊎ In y xs → x ≡ y
  heads x y xs ys h k (inl e) j = e
  heads x y xs ys h k (inr i) (inl e) = sym e
  heads x y xs ys h k (inr i) (inr j) = absurd (before_once x y (each_in (Before c x) xs y h j) (each_in (Before c y) ys x k i))

  tails : (x y : Id) (xs ys : List Id) → Each (Before c x) xs → x ≡ y → ((z : Id) → In z (x ∷ xs) → In z (y ∷ ys)) → (z : Id) → In z xs → In z ys
  tails x y xs ys h e f z i = by (f z (inr i))
    where
      by : (z ≡ y) ⊎ In z ys → In z ys
      by (inl k) = absurd (before_self x z (e ∙ sym k) (each_in (Before c x) xs z h i))
      by (inr j) = j

  pub same_sorted : (xs ys : List Id) → Sorted c xs → Sorted c ys → ((x : Id) → In x xs → In x ys) → ((x : Id) → In x ys → In x xs) → xs ≡ ys
  same_sorted [] [] s t f g = refl
  same_sorted [] (y ∷ ys) s t f g = absurd (g y (inl refl))
  same_sorted (x ∷ xs) [] s t f g = absurd (f x (inl refl))
  same_sorted (x ∷ xs) (y ∷ ys) s t f g =
      let e : x ≡ y = heads x y xs ys s.0 t.0 (f x (inl refl)) (g y (inl refl)) in
      let rest : xs ≡ ys = same_sorted xs ys s.1 t.1 (tails x y xs ys s.0 e f) (tails y x ys xs t.0 (sym e) g) in
      λ i. e i ∷ rest i

  -- ---- the events of one thread

  abbrev pub of : ℕ → List Id → List Id
  of k xs = chosen c.thread k xs

  pub of_here : (k : ℕ) (x : Id) (xs : List Id) → c.thread x ≡ k → of k (x ∷ xs) ≡ x ∷ of k xs
  of_here k x xs e = ap (λ b. cond b (x ∷ of k xs) (of k xs)) (eq-eqb (c.thread x) k e)

  pub of_other : (k : ℕ) (x : Id) (xs : List Id) → (c.thread x ≡ k → ⊥) → of k (x ∷ xs) ≡ of k xs
  of_other k x xs e = ap (λ b. cond b (x ∷ of k xs) (of k xs)) (ne_eqb (c.thread x) k e)

  in_by : (b : Bool) (k : ℕ) (y : Id) (ys rest : List Id) (x : Id) → nat_eq (c.thread y) k ≡ b → (In x rest → In x ys × (c.thread x ≡ k)) → In x (cond b (y ∷ rest) rest) → In x (y ∷ ys) × (c.thread x ≡ k)
  in_by true k y ys rest x e f (inl i) = (inl i, ap c.thread i ∙ eqb-true (c.thread y) k e)
  in_by true k y ys rest x e f (inr i) = (inr (f i).0, (f i).1)
  in_by false k y ys rest x e f i = (inr (f i).0, (f i).1)

  pub in_of : (k : ℕ) (xs : List Id) (x : Id) → In x (of k xs) → In x xs × (c.thread x ≡ k)
  in_of k [] x i = absurd i
  in_of k (y ∷ ys) x i = in_by (nat_eq (c.thread y) k) k y ys (of k ys) x refl (in_of k ys x) i

  of_by : (b : Bool) (k : ℕ) (y : Id) (ys rest : List Id) (x : Id) → nat_eq (c.thread y) k ≡ b → c.thread x ≡ k → (In x ys → In x rest) → In x (y ∷ ys) → In x (cond b (y ∷ rest) rest)
  of_by true k y ys rest x e t f (inl i) = inl i
  of_by true k y ys rest x e t f (inr i) = inr (f i)
  of_by false k y ys rest x e t f (inl i) = absurd (eqb-false (c.thread y) k e (sym (ap c.thread i) ∙ t))
  of_by false k y ys rest x e t f (inr i) = f i

  pub of_in : (k : ℕ) (xs : List Id) (x : Id) → c.thread x ≡ k → In x xs → In x (of k xs)
  of_in k [] x e i = absurd i
  of_in k (y ∷ ys) x e i = of_by (nat_eq (c.thread y) k) k y ys (of k ys) x refl e (of_in k ys x e) i

  pub each_of : (P : Id → Type 0) (k : ℕ) (xs : List Id) → Each P xs → Each P (of k xs)
  each_of P k xs h = each_from (of k xs) (λ x i. each_in P xs x h (in_of k xs x i).0)

  sorted_by : (b : Bool) (x : Id) (rest : List Id) → Each (Before c x) rest → Sorted c rest → Sorted c (cond b (x ∷ rest) rest)
  sorted_by true x rest h s = (h, s)
  sorted_by false x rest h s = s

  pub sorted_of : (k : ℕ) (xs : List Id) → Sorted c xs → Sorted c (of k xs)
  sorted_of k [] s = tt
  sorted_of k (x ∷ xs) s = sorted_by (nat_eq (c.thread x) k) x (of k xs) (each_of (Before c x) k xs s.0) (sorted_of k xs s.1)
