-- The first state of a run agrees with all events of a consistent candidate in their order.
use Rattle.std.proofs.Common.{◌≡◌, ◌<◌, ◌≤◌, ℕ, zero, suc, Bool, true, false, List, [], ◌∷◌, drop, length, Option, Some, None, ◌⊎◌, inl, inr, refl, sym, ap, subst, ◌∙◌, arith}
use Rattle.std.proofs.lemmas.Bool.{true≢false}
use Rattle.actions.specs.declared.thread_state.ThreadState.TheVariants.{Running}
use Rattle.actions.specs.Behaviour.{Thread}
use Rattle.actions.specs.Objects.{Objects}
use Rattle.actions.specs.Memory.{starts}
use Rattle.actions.proofs.Changes.{lookup-insert_apart}
use Rattle.interleave.specs.Inputs.{InputLists, words_of}
use Rattle.interleave.specs.World.{World, Member, member_at, first_world, first_common}
use Rattle.interleave.specs.Replay.{used_by, used_of}
use Rattle.weave.specs.Place.{Place, value_at}
use Rattle.weave.specs.Candidate.{Candidate, In, Each, change_at, WritesAt, Later, Before}
use Rattle.weave.specs.Consistent.{main_member, IsRun, IsChild, Follows, Groups, IsSource, IsConsistent, inside_after}
use Rattle.weave.specs.Candidate.{mode_at}
use Rattle.weave.specs.Order.{Sorted, IsOrder, cut, AreDrawn}
use Rattle.weave.specs.Family.{IsFamily, AreWhole}
use Rattle.weave.proofs.Lists.{each_map, before_trans, same_sorted, of, in_of, of_in, sorted_of, each_in}
use Rattle.weave.proofs.Entries.{lookup-insert_here}
use Rattle.weave.proofs.Local.{good_main}
use Rattle.weave.proofs.Numbering.{number_of}
use Rattle.weave.proofs.Replaying.{From, Awaits, GoesOrAwaits, WordsLeft, Agrees}
use Rattle.weave.proofs.Replaying.From.{held, wrote}

module _ {Id : Type 0} (c : Candidate Id) where
  first_before : (b : Bool) (x y : Id) (ys : List Id) → c.thread x ≡ c.thread y → Follows c b x (y ∷ ys) → Before c x y
  first_before true x y ys e f = inr (sym f.0, inr (e, f.1))
  first_before false x y ys e f = inl f.0

  run_head : (b : Bool) (x : Id) (ys : List Id) → ((y : Id) → In y ys → c.thread x ≡ c.thread y) → Follows c b x ys → Sorted c ys → Each (Before c x) ys
  run_head b x [] e f s = tt
  run_head b x (y ∷ ys) e f s =
      let here : Before c x y = first_before b x y ys (e y (inl refl)) f in
      (here, each_map ys (λ z l. before_trans c x y z here l) s.0)

  -- a thread's events are sorted
  pub run_sorted : (b : Bool) (k : ℕ) (xs : List Id) → ((x : Id) → In x xs → c.thread x ≡ k) → Groups c b xs → Sorted c xs
  run_sorted b k [] e g = tt
  run_sorted b k (x ∷ xs) e g =
      let rest : Sorted c xs = run_sorted (inside_after (mode_at c x) b) k xs (λ y i. e y (inr i)) g.1 in
      (run_head (inside_after (mode_at c x) b) x xs (λ y i. e x (inl refl) ∙ sym (e y (inr i))) g.0 rest, rest)

  pub later_before : (y x : Id) → Later c y x → Before c x y
  later_before y x (inl h) = inl h
  later_before y x (inr h) = inr (h.0, inr (h.1, h.2))

  -- two events of a sorted list
  pub in_order : (xs : List Id) (x y : Id) → Sorted c xs → In x xs → In y xs → (x ≡ y) ⊎ (Before c x y ⊎ Before c y x)
  in_order [] x y s i j = absurd i
  in_order (z ∷ zs) x y s (inl e) (inl f) = inl (e ∙ sym f)
  in_order (z ∷ zs) x y s (inl e) (inr j) = inr (inl (subst (λ (u : Id). Before c u y) (sym e) (each_in (Before c z) zs y s.0 j)))
  in_order (z ∷ zs) x y s (inr i) (inl f) = inr (inr (subst (λ (u : Id). Before c u x) (sym f) (each_in (Before c z) zs x s.0 i)))
  in_order (z ∷ zs) x y s (inr i) (inr j) = in_order zs x y s.1 i j

  module _ (t : Thread) (objects : Objects) (inputs : InputLists) (es : List Id) (family : IsFamily t) (whole : AreWhole objects) (h : IsConsistent c t objects) (order : IsOrder c es) (drawn_words : AreDrawn c inputs (cut c es)) where
    w₀ : World
    w₀ = first_world t objects

    run_is : (k : ℕ) → c.runs k ≡ of c k es
    run_is k = same_sorted c (c.runs k) (of c k es) (run_sorted false k (c.runs k) (h.owned k) (h.groups k)) (sorted_of c k es order.sorted) left right
      where
        left : (x : Id) → In x (c.runs k) → In x (of c k es)
        left x i = of_in c k es x (h.owned k x i) (order.all x (subst (λ (j : ℕ). In x (c.runs j)) (sym (h.owned k x i)) i))

        right : (x : Id) → In x (of c k es) → In x (c.runs k)
        right x i = let j = in_of c k es x i in subst (λ (n : ℕ). In x (c.runs n)) j.1 (order.only x j.0)

    first_member : member_at (first_world t objects).members 0 ≡ Some (main_member t objects)
    first_member = lookup-insert_here 0 [] (main_member t objects)

    no_member : (k : ℕ) → (k ≡ 0 → ⊥) → member_at (first_world t objects).members k ≡ None
    no_member k a = lookup-insert_apart k 0 a [] (main_member t objects)

    first_goes : (k : ℕ) → GoesOrAwaits c t objects inputs (first_world t objects) k es (member_at (first_world t objects).members k)
    first_goes zero =
        subst (λ o. GoesOrAwaits c t objects inputs (first_world t objects) 0 es o) (sym first_member)
        (record { good = good_main t family objects; run = subst (λ (l : List Id). IsRun c (main_member t objects) l) (run_is 0) h.main; running = inl (lookup-insert_here 0 [] Running) })
    first_goes (suc j) = subst (λ o. GoesOrAwaits c t objects inputs (first_world t objects) (suc j) es o) (sym (no_member (suc j) (λ e. absurd (omega arith)))) (by (h.children j))
      where
        by : (c.runs (suc j) ≡ []) ⊎ IsChild c (main_member t objects) (suc j) → (of c (suc j) es ≡ []) ⊎ Awaits c t objects inputs (suc j) es
        by (inl e) = inl (sym (run_is (suc j)) ∙ e)
        by (inr born) = inr (record {
          creator = born.creator;
          function = born.function;
          value = born.value;
          listed = order.all born.creator born.executed;
          creates = born.creates;
          after = subst (λ (l : List Id). Each (λ y. c.clock born.creator < c.clock y) l) (run_is (suc j)) born.after;
          run = subst (λ (l : List Id). IsRun c (child_of born) l) (run_is (suc j)) born.run;
        })
          where
            child_of : IsChild c (main_member t objects) (suc j) → Member
            child_of b = Rattle.interleave.specs.World.child (main_member t objects) b.function b.value

    first_fresh : (x : Id) (k f v : ℕ) → In x es → change_at c x ≡ starts k f v → member_at (first_world t objects).members k ≡ None
    first_fresh x k f v i e =
        let n = number_of c t objects family h x k (order.only x i) (f, v, e) in
        no_member k (λ q. absurd (omega (arith, n.over, n.number, q)))

    -- ---- sources

    first_from : (x : Id) (p : Place) → In x es → (o : Option Id) → IsSource c objects x p o → From c (first_common objects).memory es x p
    first_from x p i None s = held s.0 (λ y j w. by y (s.1 y (order.only y j) w))
      where
        by : (y : Id) → (y ≡ x) ⊎ Later c y x → (y ≡ x) ⊎ Before c x y
        by y (inl e) = inl e
        by y (inr l) = inr (later_before y x l)
    first_from x p i (Some s) src = wrote s (order.all s src.0) (later_before x s src.1) src.2 (λ y j w. compared y j w (in_order es y s order.sorted j (order.all s src.0)))
      where
        after_s : (y : Id) → In y es → WritesAt c y p → Later c y s → (y ≡ s) ⊎ (Before c y s ⊎ ((y ≡ x) ⊎ Before c x y))
        after_s y j w l = by (src.3 y (order.only y j) w l)
          where
            by : (y ≡ x) ⊎ Later c y x → (y ≡ s) ⊎ (Before c y s ⊎ ((y ≡ x) ⊎ Before c x y))
            by (inl e) = inr (inr (inl e))
            by (inr m) = inr (inr (inr (later_before y x m)))

        one_clock : (y : Id) → In y es → WritesAt c y p → c.clock s ≡ c.clock y → c.thread s < c.thread y → ⊥
        one_clock y j w e l = h.coherent y s p (order.only y j) src.0 w (value_at (c.view x) p, src.2) (λ q. absurd (omega arith)) (sym e)

        compared : (y : Id) → In y es → WritesAt c y p → (y ≡ s) ⊎ (Before c y s ⊎ Before c s y) → (y ≡ s) ⊎ (Before c y s ⊎ ((y ≡ x) ⊎ Before c x y))
        compared y j w (inl e) = inl e
        compared y j w (inr (inl b)) = inr (inl b)
        compared y j w (inr (inr (inl b))) = after_s y j w (inl b)
        compared y j w (inr (inr (inr (e, inl l)))) = absurd (one_clock y j w e l)
        compared y j w (inr (inr (inr (e, inr l)))) = after_s y j w (inr (e, l.0, l.1))

    -- ---- words

    none_used : (k : ℕ) → used_by (first_world t objects) k ≡ 0
    none_used zero = ap used_of first_member
    none_used (suc k) = ap used_of (no_member (suc k) (λ e. absurd (omega arith)))

    first_words : (k : ℕ) → WordsLeft c t objects inputs (first_world t objects) es k
    first_words k = record {
      within = subst (λ n. n ≤ length (words_of inputs k)) (sym (none_used k)) (omega arith);
      left = ap (λ n. drop n (words_of inputs k)) (none_used k) ∙ drawn_words k;
    }

    pub first_agrees : Agrees c t objects inputs (first_world t objects) es
    first_agrees = record {
      sorted = order.sorted;
      executed = order.only;
      goes = first_goes;
      fresh = first_fresh;
      section = tt;
      groups = λ k. subst (λ (l : List Id). Groups c false l) (run_is k) (h.groups k);
      goes_on = λ e. absurd (true≢false (sym e));
      whole = whole;
      sources = λ x p i r. let s = h.sources x p (order.only x i) r in first_from x p i s.0 s.1;
      words = first_words;
    }
