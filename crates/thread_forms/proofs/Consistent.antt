-- The candidate of a valuation that meets the conditions is consistent.
use Rattle.std.proofs.Common.{◌≡◌, ◌<◌, ◌≤◌, ℕ, zero, suc, Bool, true, false, ◌&&◌, cond, List, [], ◌∷◌, Option, Some, None, ◌⊎◌, inl, inr, refl, sym, ap, subst, ◌∙◌, arith, nat_eq, true≢false}
use Rattle.std.proofs.lemmas.Bool.{eqb-true, eq-eqb, and_parts, and_from, cases_eq}
use Rattle.actions.specs.Behaviour.{Thread}
use Rattle.actions.specs.Objects.{Objects}
use Rattle.actions.specs.Memory.{starts}
use Rattle.interleave.specs.World.{Member, child}
use Rattle.weave.specs.Place.{Place}
use Rattle.weave.specs.Candidate.{Candidate, In, Executed, mode_at}
use Rattle.weave.specs.Consistent.{main_member, IsRun, IsChild, IsLast, Follows, Groups, IsSource, IsConsistent, inside_after}
use Rattle.weave.specs.Family.{IsFamily}
use Rattle.weave.proofs.Lists.{each_from}
use Rattle.thread_forms.specs.Forms.{Valuation, Name, Forms, names, number, AreForms}
use Rattle.thread_forms.specs.Valued.{Marks, taken, turns, keep, there, form_of, turns_of, candidate, IsTaken}
use Rattle.thread_forms.specs.Meets.{IsLastName, FollowsName, NameGroups, SourceAt, Meets, MeetsIsConsistent}
use Rattle.thread_forms.proofs.Prefixes.{in_named}
use Rattle.thread_forms.proofs.Forming.{run_of, listed_turn, there_of, one_form, creator_here, creator_taken, creates_here, child_same}

pub keep_in : (f : Name → Bool) (xs : List Name) (x : Name) → In x (keep f xs) → In x xs × (f x ≡ true)
keep_in f [] x i = absurd i
keep_in f (y ∷ ys) x i = by (f y) refl i (keep_in f ys x)
  where
    by : (b : Bool) → f y ≡ b → In x (cond b (y ∷ keep f ys) (keep f ys)) → (In x (keep f ys) → In x ys × (f x ≡ true)) → In x (y ∷ ys) × (f x ≡ true)
    by true q (inl r) h = (inl r, ap f r ∙ q)
    by true q (inr j) h = (inr (h j).0, (h j).1)
    by false q j h = (inr (h j).0, (h j).1)

module _ (t : Thread) (objects : Objects) (F : Forms) (v : Valuation) (m : Marks) (family : IsFamily t) (forms : AreForms t F) (meets : Meets F v m objects) where
  abbrev c : Candidate Name
  c = candidate F v m

  -- ---- the form of a number

  record IsFormOf (n k i : ℕ) : Type 0 where
    below : i < n
    created : there F v m i ≡ true
    number_is : number F v i ≡ k

  found_by : (n k i : ℕ) (b : Bool) → (there F v m n && nat_eq (number F v n) k) ≡ b → cond b (Some n) (form_of F v m n k) ≡ Some i → (form_of F v m n k ≡ Some i → IsFormOf n k i) → IsFormOf (suc n) k i
  found_by n k i true q e h =
      let p = and_parts (there F v m n) (nat_eq (number F v n) k) q in
      let one : n ≡ i = cc e in
      record { below = omega (arith, one); created = ap (there F v m) (sym one) ∙ p.0; number_is = ap (number F v) (sym one) ∙ eqb-true (number F v n) k p.1 }
  found_by n k i false q e h = let r = h e in record { below = omega (arith, r.below); created = r.created; number_is = r.number_is }

  found : (n k i : ℕ) → form_of F v m n k ≡ Some i → IsFormOf n k i
  found zero k i e = absurd (cc e)
  found (suc n) k i e = found_by n k i (there F v m n && nat_eq (number F v n) k) refl e (found n k i)

  finds_by : (n i : ℕ) → suc n ≤ F.many → i < suc n → there F v m i ≡ true → (b : Bool) → (there F v m n && nat_eq (number F v n) (number F v i)) ≡ b → (i ≡ n) ⊎ (i ≡ n → ⊥)
      → (i < n → form_of F v m n (number F v i) ≡ Some i) → cond b (Some n) (form_of F v m n (number F v i)) ≡ Some i
  finds_by n i l s h true q d f =
      let p = and_parts (there F v m n) (nat_eq (number F v n) (number F v i)) q in
      ap Some (one_form t objects F v m family forms meets.orders n i (omega arith) (omega arith) p.0 h (eqb-true (number F v n) (number F v i) p.1))
  finds_by n i l s h false q (inl e) f =
      absurd (true≢false (sym (and_from (there F v m n) (nat_eq (number F v n) (number F v i)) (ap (there F v m) (sym e) ∙ h) (eq-eqb (number F v n) (number F v i) (ap (number F v) (sym e)))) ∙ q))
  finds_by n i l s h false q (inr a) f = f (omega arith)

  finds : (n i : ℕ) → n ≤ F.many → i < n → there F v m i ≡ true → form_of F v m n (number F v i) ≡ Some i
  finds zero i l s h = absurd (omega arith)
  finds (suc n) i l s h = finds_by n i l s h (there F v m n && nat_eq (number F v n) (number F v i)) refl (cases_eq i n) (λ k. finds n i (omega arith) k h)

  run_is : (i : ℕ) → i < F.many → there F v m i ≡ true → c.runs (number F v i) ≡ turns F v m i
  run_is i b h = ap (turns_of F v m) (finds F.many i (omega arith) b h)

  -- ---- executed events are the taken ones

  abbrev IsOf : ℕ → Name → Type 0
  IsOf k x = IsTaken F v m x × (number F v x.form ≡ k)

  of_run_by : (k : ℕ) (x : Name) (o : Option ℕ) → form_of F v m F.many k ≡ o → In x (turns_of F v m o) → IsOf k x
  of_run_by k x None e i = absurd i
  of_run_by k x (Some j) e i =
      let r = found F.many k j e in
      let l = keep_in (taken F v m) (names F j) x i in
      let same : x.form ≡ j = (in_named j 0 (F.events j) x l.0).0 in
      (record { form = omega (arith, r.below, same); listed = subst (λ (f : ℕ). In x (names F f)) (sym same) l.0; taken_there = l.1 }, ap (number F v) same ∙ r.number_is)

  of_run : (k : ℕ) (x : Name) → In x (c.runs k) → IsOf k x
  of_run k x i = of_run_by k x (form_of F v m F.many k) refl i

  pub taken_of : (x : Name) → Executed c x → IsTaken F v m x
  taken_of x i = (of_run (c.thread x) x i).0

  pub executed_of : (x : Name) → IsTaken F v m x → Executed c x
  executed_of x k = subst (λ (l : List Name). In x l) (sym (run_is x.form k.form (there_of t objects F v m family forms meets.orders x k))) (listed_turn t objects F v m family forms meets.orders x k)

  -- ---- threads

  child_by : (k : ℕ) (o : Option ℕ) → form_of F v m F.many (suc k) ≡ o → (turns_of F v m o ≡ []) ⊎ IsChild c (main_member t objects) (suc k)
  child_by k None e = inl refl
  child_by k (Some zero) e = let r = found F.many (suc k) zero e in absurd (omega (arith, r.number_is))
  child_by k (Some (suc j)) e =
      let r = found F.many (suc k) (suc j) e in
      let p = creator_here t objects F v m family forms meets.orders j r.below in
      let x = creator_taken t objects F v m family forms meets.orders j r.below r.created in
      let runs : turns F v m (suc j) ≡ c.runs (suc k) = sym (ap (turns_of F v m) e) in
      inr (record {
        creator = F.creator j;
        function = p.function;
        value = p.value;
        executed = executed_of (F.creator j) x;
        creates = creates_here t objects F v m family forms meets.orders j p ∙ ap (λ (n : ℕ). starts n p.function p.value) r.number_is;
        after = each_from (c.runs (suc k)) (λ y i. later j r.below r.created r.number_is y (of_run (suc k) y i));
        run = subst (λ (l : List Name). IsRun c (child (main_member t objects) p.function p.value) l) runs
            (subst (λ (u : Member). IsRun c u (turns F v m (suc j))) (sym (child_same t objects F v m family forms meets.orders ((F.creator j).event.told v) p)) (run_of t objects F v m family forms meets.orders (suc j) r.below));
      })
    where
      later : (j : ℕ) → suc j < F.many → there F v m (suc j) ≡ true → number F v (suc j) ≡ suc k → (y : Name) → IsOf (suc k) y → c.clock (F.creator j) < c.clock y
      later j b h n y o =
          (meets.orders.created j y (one_form t objects F v m family forms meets.orders y.form (suc j) o.0.form b (there_of t objects F v m family forms meets.orders y o.0) h (o.1 ∙ sym n)) o.0).1

  -- ---- groups

  last_of : (x : Name) → IsLastName F v m x → IsLast c x
  last_of x h = λ y i a. h y (taken_of y i) a

  follows_of : (b : Bool) (x : Name) (ys : List Name) → FollowsName F v m b x ys → Follows c b x ys
  follows_of true x [] h = last_of x h
  follows_of true x (y ∷ ys) h = h
  follows_of false x [] h = tt
  follows_of false x (y ∷ ys) h = h

  groups_of : (b : Bool) (xs : List Name) → NameGroups F v m b xs → Groups c b xs
  groups_of b [] h = tt
  groups_of b (x ∷ xs) h = (follows_of (inside_after (mode_at c x) b) x xs h.0, groups_of (inside_after (mode_at c x) b) xs h.1)

  groups_by : (k : ℕ) (o : Option ℕ) → form_of F v m F.many k ≡ o → Groups c false (turns_of F v m o)
  groups_by k None e = tt
  groups_by k (Some i) e = groups_of false (turns F v m i) (meets.groups i (found F.many k i e).below)

  -- ---- sources

  source_of : (x : Name) (p : Place) (o : Option Name) → SourceAt F v m objects x p o → IsSource c objects x p o
  source_of x p None s = (s.0, λ y i w. s.1 y (taken_of y i) w)
  source_of x p (Some z) s = (executed_of z s.0, s.1, s.2, λ y i w l. s.3 y (taken_of y i) w l)

  pub consistent : IsConsistent c t objects
  consistent = record {
    owned = λ k x i. (of_run k x i).1;
    main = subst (λ (l : List Name). IsRun c (main_member t objects) l) (sym (run_is 0 forms.some refl)) (run_of t objects F v m family forms meets.orders 0 forms.some);
    children = λ k. child_by k (form_of F v m F.many (suc k)) refl;
    groups = λ k. groups_by k (form_of F v m F.many k) refl;
    sources = λ x p i r. let s = meets.sources x p (taken_of x i) r in (s.0, source_of x p s.0 s.1);
    coherent = λ x y p i j w u a e. meets.coherent x y p (taken_of x i) (taken_of y j) w u a e;
    exits = λ x i e. last_of x (meets.exits x (taken_of x i) e);
  }

pub meets_is_consistent : MeetsIsConsistent
meets_is_consistent = λ t objects F v m family forms meets. consistent t objects F v m family forms meets
