-- The taken events of a form are the first steps of its thread.
use Rattle.std.proofs.Common.{◌≡◌, ◌<◌, ◌≤◌, ℕ, suc, Bool, true, false, ◌&&◌, cond, List, [], ◌∷◌, inl, inr, refl, sym, ap, subst, ◌∙◌, arith, true≢false}
use Rattle.actions.specs.declared.action.Answer.{Answer}
use Rattle.actions.specs.declared.action.Next.{Next}
use Rattle.actions.specs.declared.action.Next.TheVariants.{Act, Ended, Blocked, Broken}
use Rattle.actions.specs.Behaviour.{after}
use Rattle.actions.specs.Objects.{Objects}
use Rattle.actions.specs.Row.{Outcome, breaks, waits, moves, outcome_in}
use Rattle.interleave.specs.World.{Member}
use Rattle.weave.specs.Step.{row_by, IsOwn, counted_by, told_by}
use Rattle.weave.specs.Candidate.{Candidate, In, outcome_at}
use Rattle.weave.specs.Consistent.{GoesOn, IsRun}
use Rattle.thread_forms.specs.Forms.{Valuation, Told, passes, asks, stops, Event, Name, Forms, named, names, number, goes_by, Goes}
use Rattle.thread_forms.specs.Valued.{Marks, told, executed, taken, keep, candidate, IsTaken, is_turn, next_told, own_told}
use Rattle.thread_forms.specs.Meets.{GoesPast, Answers, Numbered, Orders, if_taken}

pub in_named : (i n : ℕ) (es : List Event) (x : Name) → In x (named i n es) → (x.form ≡ i) × (n ≤ x.place)
in_named i n [] x h = absurd h
in_named i n (e ∷ es) x (inl q) = (ap (λ (y : Name). y.form) q, omega (arith, ap (λ (y : Name). y.place) q))
in_named i n (e ∷ es) x (inr h) = let r = in_named i (suc n) es x h in (r.0, omega (arith, r.1))

both_true : (a b : Bool) → (a && b) ≡ true → (a ≡ true) × (b ≡ true)
both_true true b e = (refl, e)
both_true false b e = absurd (true≢false (sym e))

none_kept : (f : Name → Bool) (xs : List Name) → ((x : Name) → In x xs → f x ≡ true → ⊥) → keep f xs ≡ []
none_kept f [] h = refl
none_kept f (x ∷ xs) h = by (f x) refl (none_kept f xs (λ y i. h y (inr i)))
  where
    by : (b : Bool) → f x ≡ b → keep f xs ≡ [] → cond b (x ∷ keep f xs) (keep f xs) ≡ []
    by true e r = absurd (h x (inl refl) e)
    by false e r = r

module _ (F : Forms) (v : Valuation) (m : Marks) (objects : Objects) (orders : Orders F v m objects) (i : ℕ) (below : i < F.many) where
  abbrev c : Candidate Name
  c = candidate F v m

  -- events of the form from a place on
  abbrev IsPart : ℕ → List Event → Type 0
  IsPart n es = (x : Name) → In x (named i n es) → In x (names F i)

  module _ (n : ℕ) (e : Event) (es : List Event) (part : IsPart n (e ∷ es)) where
    abbrev x₀ : Name
    x₀ = record { form = i; place = n; event = e }

    abbrev rest : List Name
    rest = named i (suc n) es

    here : In x₀ (names F i)
    here = part x₀ (inl refl)

    -- where a later event is executed the thread has passed this one
    passed : (y : Name) → In y rest → taken F v m y ≡ true → e.guard v ≡ true → (executed F v m x₀ ≡ true) × GoesPast (e.told v) (outcome_at c x₀)
    passed y h k g = orders.before x₀ y below here (part y (inr h)) (let r = in_named i (suc n) es y h in omega (arith, r.1)) (both_true (executed F v m y) (is_turn (told F v m y)) k).0 g

    nothing : e.guard v ≡ true → ((executed F v m x₀ ≡ true) × GoesPast (e.told v) (outcome_at c x₀) → ⊥) → keep (taken F v m) rest ≡ []
    nothing g never = none_kept (taken F v m) rest (λ y h k. never (passed y h k g))

    taken_here : taken F v m x₀ ≡ true → IsTaken F v m x₀
    taken_here k = record { form = below; listed = here; taken_there = k }

    module _ (u : Member) (next : (w : Member) → Goes v w.thread.behaves es → Numbered F v m (number F v i) w.counts rest → IsRun c w (keep (taken F v m) rest)) where
      -- it isn't taken
      idle : (g : Bool) → e.guard v ≡ g → (d : Told) → e.told v ≡ d → taken F v m x₀ ≡ false → goes_by g d u.thread.behaves (λ b. Goes v b es) → Numbered F v m (number F v i) u.counts rest → IsRun c u (keep (taken F v m) rest)
      idle false q d r k h s = next u h s
      idle true q passes r k h s = next u h s
      idle true q (asks a b) r k h s = subst (λ (l : List Name). IsRun c u l) (sym (nothing q (λ p. true≢false (sym (ap (λ (z : Bool). z && is_turn (e.told v)) p.0 ∙ ap is_turn r) ∙ k)))) tt
      idle true q (stops a) r k h s = subst (λ (l : List Name). IsRun c u l) (sym (nothing q (λ p. subst (λ (z : Told). GoesPast z (outcome_at c x₀)) r p.1))) tt

      -- it is taken, and so is the answer
      moved_by : (a : Next) (b : Answer) → e.told v ≡ asks a b → e.guard v ≡ true → (o : Outcome) → outcome_at c x₀ ≡ o → Answers (asks a b) o
          → Goes v (after u.thread.behaves b) es → Numbered F v m (number F v i) (counted_by [] u.counts (next_told (e.told v))) rest
          → GoesOn c o (keep (taken F v m) rest) (λ z. IsRun c (told_by [] u (next_told (e.told v)) z) (keep (taken F v m) rest))
      moved_by a b r g (breaks class) q w h s = nothing g (λ p. subst (λ (z : Told). GoesPast z (breaks class)) r (subst (λ (z : Outcome). GoesPast (e.told v) z) q p.1))
      moved_by a b r g waits q w h s = w
      moved_by a b r g (moves z change) q w h s = next (told_by [] u (next_told (e.told v)) z) (subst (λ (y : Answer). Goes v (after u.thread.behaves y) es) (sym w) h) s

      stopped_by : (a : Next) → e.told v ≡ stops a → e.guard v ≡ true → is_turn (stops a) ≡ true → GoesOn c (outcome_at c x₀) (keep (taken F v m) rest) (λ z. IsRun c (told_by [] u (next_told (e.told v)) z) (keep (taken F v m) rest))
      stopped_by (Broken class line function) r g k =
          let broken : outcome_at c x₀ ≡ breaks class = ap (λ (z : Told). outcome_in (c.view x₀) (row_by (c.thread x₀) (c.own x₀) (next_told z))) r in
          subst (λ (o : Outcome). GoesOn c o (keep (taken F v m) rest) (λ z. IsRun c (told_by [] u (next_told (e.told v)) z) (keep (taken F v m) rest))) (sym broken)
          (nothing g (λ p. subst (λ (z : Told). GoesPast z (outcome_at c x₀)) r p.1))
      stopped_by (Act action line function) r g k = absurd (true≢false (sym k))
      stopped_by (Ended w) r g k = absurd (true≢false (sym k))
      stopped_by Blocked r g k = absurd (true≢false (sym k))

      full : (g : Bool) → e.guard v ≡ g → (d : Told) → e.told v ≡ d → taken F v m x₀ ≡ true → goes_by g d u.thread.behaves (λ b. Goes v b es)
          → IsOwn (number F v i) u.counts (own_told (e.told v)) (next_told (e.told v)) → Numbered F v m (number F v i) (counted_by [] u.counts (next_told (e.told v))) rest → IsRun c u (x₀ ∷ keep (taken F v m) rest)
      full false q d r k h o s = absurd (true≢false (sym (orders.guarded x₀ below here (both_true (executed F v m x₀) (is_turn (e.told v)) k).0) ∙ q))
      full true q passes r k h o s = absurd (true≢false (sym (both_true (executed F v m x₀) (is_turn (e.told v)) k).1 ∙ ap is_turn r))
      full true q (asks a b) r k h o s =
          (h.0 ∙ ap next_told (sym r), o, moved_by a b r q (outcome_at c x₀) refl (subst (λ (z : Told). Answers z (outcome_at c x₀)) r (orders.answers x₀ (taken_here k))) h.1 s)
      full true q (stops a) r k h o s = (h ∙ ap next_told (sym r), o, stopped_by a r q (sym (ap is_turn r) ∙ (both_true (executed F v m x₀) (is_turn (e.told v)) k).1))

      by_taken : (b : Bool) → taken F v m x₀ ≡ b → goes_by (e.guard v) (e.told v) u.thread.behaves (λ y. Goes v y es)
          → if_taken F v m b (IsOwn (number F v i) u.counts (own_told (e.told v)) (next_told (e.told v)) × Numbered F v m (number F v i) (counted_by [] u.counts (next_told (e.told v))) rest) (Numbered F v m (number F v i) u.counts rest)
          → IsRun c u (cond b (x₀ ∷ keep (taken F v m) rest) (keep (taken F v m) rest))
      by_taken true k h s = full (e.guard v) refl (e.told v) refl k h s.0 s.1
      by_taken false k h s = idle (e.guard v) refl (e.told v) refl k h s

  pub run_from : (es : List Event) (n : ℕ) → IsPart n es → (u : Member) → Goes v u.thread.behaves es → Numbered F v m (number F v i) u.counts (named i n es) → IsRun c u (keep (taken F v m) (named i n es))
  run_from [] n part u h s = tt
  run_from (e ∷ es) n part u h s =
      by_taken n e es part u (λ w g l. run_from es (suc n) (λ x k. part x (inr k)) w g l) (taken F v m (record { form = i; place = n; event = e })) refl h s
