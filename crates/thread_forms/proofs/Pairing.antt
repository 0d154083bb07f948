-- The taken events of a form and the events of its thread's run, side by side.
use Rattle.std.proofs.Common.{◌≡◌, ◌<◌, ◌+◌, ℕ, suc, Bool, true, false, ◌&&◌, cond, List, [], ◌∷◌, Option, Some, None, inl, inr, refl, sym, ap, subst, ◌∙◌, arith, true≢false}
use Rattle.actions.specs.declared.action.Action.{Action}
use Rattle.actions.specs.declared.action.Action.TheVariants.{Draw, Alloc, Create}
use Rattle.actions.specs.declared.action.Answer.{Answer}
use Rattle.actions.specs.declared.action.Answer.TheVariants as answer
use Rattle.actions.specs.declared.action.Next.{Next}
use Rattle.actions.specs.declared.action.Next.TheVariants.{Act, Ended, Blocked, Broken}
use Rattle.actions.specs.Memory.{Memory}
use Rattle.actions.specs.Row.{outcome_in}
use Rattle.actions.specs.Table.{row}
use Rattle.interleave.specs.declared.counts.Counts.{Counts}
use Rattle.interleave.specs.World.{Member, first_common}
use Rattle.weave.specs.Step.{row_by, IsOwn, IsOwnOf, counted_by, told_by}
use Rattle.weave.specs.Candidate.{Candidate, In, Each, outcome_at, mode_at}
use Rattle.weave.specs.Consistent.{IsRun, Groups, inside_after}
use Rattle.weave.specs.Consistent as consistent
use Rattle.weave.proofs.Lists.{each_from, each_in, each_map}
use Rattle.thread_forms.specs.Forms.{Valuation, Told, passes, asks, stops, Event, Name, Forms, named, number, heard_if, heard}
use Rattle.thread_forms.specs.Valued.{Marks, taken, keep, is_turn, next_told, own_told, own_answer, own_for}
use Rattle.thread_forms.specs.Meets.{Answers, Numbered, if_taken}
use Rattle.thread_forms.proofs.Prefixes.{in_named}
use Rattle.thread_forms.proofs.Consistent.{keep_in}
use Rattle.thread_forms.proofs.Walking.{Stands, Follows, follows_none, goes_or, walk}

act_own : (action : Action) (line function t own : ℕ) (counts : Counts) (m : Memory) (a : Answer) → IsOwnOf t counts own action → Answers (asks (Act action line function) a) (outcome_in m (row t own action)) → own ≡ own_for action a
act_own (Draw n) line function t own counts m a o w = ap own_answer w
act_own (Alloc x) line function t own counts m a o w = ap own_answer w
act_own (Create f u) line function t own counts m a o w = ap own_answer w
act_own _ line function t own counts m a o w = o

told_row : (t : Told) (n : Next) (th own : ℕ) (counts : Counts) (m : Memory) → n ≡ next_told t → IsOwn th counts own n → Answers t (outcome_in m (row_by th own n)) → is_turn t ≡ true
    → (row_by th own n ≡ row_by th (own_told t) (next_told t)) × IsOwn th counts (own_told t) (next_told t)
told_row (asks (Act action line function) a) n th own counts m e o w b =
    let p : IsOwnOf th counts own action = subst (λ (z : Next). IsOwn th counts own z) e o in
    let q : own ≡ own_for action a = act_own action line function th own counts m a p (subst (λ (z : Next). Answers (asks (Act action line function) a) (outcome_in m (row_by th own z))) e w) in
    (ap (λ (z : Next). row_by th own z) e ∙ ap (λ (k : ℕ). row th k action) q, subst (λ (k : ℕ). IsOwnOf th counts k action) q p)
told_row (asks (Ended v) a) n th own counts m e o w b = (ap (λ (z : Next). row_by th own z) e, tt)
told_row (asks Blocked a) n th own counts m e o w b = (ap (λ (z : Next). row_by th own z) e, tt)
told_row (asks (Broken class line function) a) n th own counts m e o w b = (ap (λ (z : Next). row_by th own z) e, tt)
told_row (stops (Broken class line function)) n th own counts m e o w b = (ap (λ (z : Next). row_by th own z) e, tt)
told_row (stops (Act action line function)) n th own counts m e o w b = absurd (true≢false (sym b))
told_row (stops (Ended v)) n th own counts m e o w b = absurd (true≢false (sym b))
told_row (stops Blocked) n th own counts m e o w b = absurd (true≢false (sym b))
told_row passes n th own counts m e o w b = absurd (true≢false (sym b))

and_false : (b : Bool) → (b && false) ≡ false
and_false true = refl
and_false false = refl

module _ {Id : Type 0} (d : Candidate Id) where
  abbrev pub is_there : Option Id → Bool
  is_there None = false
  is_there (Some y) = true

  abbrev pub clock_of : Option Id → ℕ
  clock_of None = 0
  clock_of (Some y) = d.clock y

  abbrev pub view_of : Option Id → Memory
  view_of None = (first_common []).memory
  view_of (Some y) = d.view y

  -- the marks of a choice of an event for each place
  abbrev pub marks_of : (ℕ → ℕ → Option Id) → Marks
  marks_of hd = record { executed = λ i k. is_there (hd i k); clock = λ i k. clock_of (hd i k); view = λ i k. view_of (hd i k) }

  -- ---- places rise along a run

  abbrev pub Rising : List Id → Type 0
  Rising [] = Unit {0}
  Rising (y ∷ ys) = Each (λ z. d.place y < d.place z) ys × Rising ys

  follows_place : (b : Bool) (y z : Id) (zs : List Id) → consistent.Follows d b y (z ∷ zs) → d.place y < d.place z
  follows_place true y z zs h = h.1
  follows_place false y z zs h = h.1

  pub rising : (b : Bool) (ys : List Id) → Groups d b ys → Rising ys
  rising b [] g = tt
  rising b (y ∷ []) g = (tt, tt)
  rising b (y ∷ (z ∷ zs)) g =
      let rest : Rising (z ∷ zs) = rising (inside_after (mode_at d y) b) (z ∷ zs) g.1 in
      let l : d.place y < d.place z = follows_place (inside_after (mode_at d y) b) y z zs g.0 in
      ((l, each_map zs (λ x k. omega (arith, l, k)) rest.0), rest)

  module _ (F : Forms) (v : Valuation) (hd : ℕ → ℕ → Option Id) where
    abbrev pub m : Marks
    m = marks_of hd

    -- the event that stands for a taken event
    pub record IsPartner (x : Name) (y : Id) : Type 0 where
      pub at : hd x.form x.place ≡ Some y
      pub thread : d.thread y ≡ number F v x.form
      pub next : d.next y ≡ next_told (x.event.told v)
      pub rows : row_by (d.thread y) (d.own y) (d.next y) ≡ row_by (number F v x.form) (own_told (x.event.told v)) (next_told (x.event.told v))
      pub turn : is_turn (x.event.told v) ≡ true
      pub answers : Answers (x.event.told v) (outcome_at d y)

    abbrev pub Paired : List Name → List Id → Type 0
    Paired [] [] = Unit {0}
    Paired [] (y ∷ ys) = ⊥
    Paired (x ∷ xs) [] = ⊥
    Paired (x ∷ xs) (y ∷ ys) = IsPartner x y × Each (λ z. x.place < z.place) xs × Paired xs ys

    abbrev pub Both : List Id → ℕ → Counts → List Name → Type 0
    Both ys k counts zs = Paired (keep (taken F v m) zs) ys × Numbered F v m k counts zs

    module _ (i n : ℕ) (e : Event) (es : List Event) where
      abbrev here : Name
      here = record { form = i; place = n; event = e }

      abbrev rest : List Name
      rest = named i (suc n) es

      abbrev k₀ : ℕ
      k₀ = number F v i

      skip : (ys : List Id) (counts : Counts) → taken F v m here ≡ false → Both ys k₀ counts rest → Both ys k₀ counts (here ∷ rest)
      skip ys counts q h = (
        subst (λ (b : Bool). Paired (cond b (here ∷ keep (taken F v m) rest) (keep (taken F v m) rest)) ys) (sym q) h.0,
        subst (λ (b : Bool). if_taken F v m b (IsOwn k₀ counts (own_told (e.told v)) (next_told (e.told v)) × Numbered F v m k₀ (counted_by [] counts (next_told (e.told v))) rest) (Numbered F v m k₀ counts rest)) (sym q) h.1,
      )

      take : (x : Id) (xs : List Id) (u : Member) → hd i n ≡ Some x → Stands d (e.told v) x → d.thread x ≡ k₀ → IsOwn (d.thread x) u.counts (d.own x) (d.next x)
          → Both xs k₀ (counted_by [] u.counts (next_told (e.told v))) rest → Both (x ∷ xs) k₀ u.counts (here ∷ rest)
      take x xs u q s th own h =
          let r = told_row (e.told v) (d.next x) (d.thread x) (d.own x) u.counts (d.view x) s.next own s.answers s.turn in
          let yes : taken F v m here ≡ true = ap (λ (o : Option Id). is_there o && is_turn (e.told v)) q ∙ s.turn in (
            subst (λ (b : Bool). Paired (cond b (here ∷ keep (taken F v m) rest) (keep (taken F v m) rest)) (x ∷ xs)) (sym yes) (
              record { at = q; thread = th; next = s.next; rows = r.0 ∙ ap (λ (k : ℕ). row_by k (own_told (e.told v)) (next_told (e.told v))) th; turn = s.turn; answers = s.answers },
              each_from (keep (taken F v m) rest) (λ z j. omega (arith, (in_named i (suc n) es z (keep_in (taken F v m) rest z j).0).1)),
              h.0,
            ),
            subst (λ (b : Bool). if_taken F v m b (IsOwn k₀ u.counts (own_told (e.told v)) (next_told (e.told v)) × Numbered F v m k₀ (counted_by [] u.counts (next_told (e.told v))) rest) (Numbered F v m k₀ u.counts rest)) (sym yes)
                (subst (λ (k : ℕ). IsOwn k u.counts (own_told (e.told v)) (next_told (e.told v))) th r.1, h.1),
          )

      abbrev Heads : ℕ → List (Option Told) → List Id → Type 0
      Heads p hs xs = (k : ℕ) → hd i (p + k) ≡ walk d hs xs k

      abbrev AreOf : List Id → Type 0
      AreOf xs = (y : Id) → In y xs → d.thread y ≡ k₀

      module _ (more : (ys : List Id) (w : Member) → IsRun d w ys → Heads (suc n) (heard v es) ys → Follows d (heard v es) ys → AreOf ys → Both ys k₀ w.counts rest) where
        at_here : (o : Option Id) → hd i (n + 0) ≡ o → hd i n ≡ o
        at_here o q = ap (hd i) (here_is n) ∙ q
          where
            here_is : (p : ℕ) → p ≡ p + 0
            here_is p = omega arith

        behind : (f : ℕ → Option Id) → ((k : ℕ) → hd i (n + suc k) ≡ f k) → (k : ℕ) → hd i (suc n + k) ≡ f k
        behind f h k = ap (hd i) (next_is n) ∙ h k
          where
            next_is : (p : ℕ) → suc p + k ≡ p + suc k
            next_is p = omega arith

        idle : hd i n ≡ None → taken F v m here ≡ false
        idle q = ap (λ (o : Option Id). is_there o && is_turn (e.told v)) q

        taking : (t : Told) → e.told v ≡ t → (x : Id) (xs : List Id) (u : Member) → IsRun d u (x ∷ xs) → Heads n (Some t ∷ heard v es) (x ∷ xs) → Stands d t x → Follows d (heard v es) xs → AreOf (x ∷ xs)
            → ((k : ℕ) → hd i (suc n + k) ≡ walk d (heard v es) xs k) → Both (x ∷ xs) k₀ u.counts (here ∷ rest)
        taking t r x xs u run h s f th b =
            let st : Stands d (e.told v) x = subst (λ (z : Told). Stands d z x) (sym r) s in
            let go : (w : Member) × (w.counts ≡ counted_by [] u.counts (d.next x)) × IsRun d w xs =
            goes_or d (λ l. (w : Member) × (w.counts ≡ counted_by [] u.counts (d.next x)) × IsRun d w l) (outcome_at d x) xs (λ a. IsRun d (told_by [] u (d.next x) a) xs) run.2
            (told_by [] u (d.next x) answer.Done, refl, tt) (λ a change q k. (told_by [] u (d.next x) a, refl, k)) in
            take x xs u (at_here (Some x) (h 0)) st (th x (inl refl)) run.1
            (subst (λ (c : Counts). Both xs k₀ c rest) (go.1 ∙ ap (λ (z : Next). counted_by [] u.counts z) st.next) (more xs go.0 go.2 b f (λ y j. th y (inr j))))

        step : (g : Bool) → e.guard v ≡ g → (t : Told) → e.told v ≡ t → (xs : List Id) (u : Member) → IsRun d u xs → Heads n (heard_if g t ∷ heard v es) xs → Follows d (heard_if g t ∷ heard v es) xs → AreOf xs
            → Both xs k₀ u.counts (here ∷ rest)
        step false q t r xs u run h f th = skip xs u.counts (idle (at_here None (h 0))) (more xs u run (behind (walk d (heard v es) xs) (λ k. h (suc k))) f th)
        step true q passes r xs u run h f th =
            skip xs u.counts (ap (λ (z : Told). is_there (hd i n) && is_turn z) r ∙ and_false (is_there (hd i n))) (more xs u run (behind (walk d (heard v es) xs) (λ k. h (suc k))) f th)
        step true q (asks a b) r [] u run h f th = skip [] u.counts (idle (at_here None (h 0))) (more [] u tt (behind (walk d (heard v es) []) (λ k. h (suc k))) (follows_none d (heard v es)) th)
        step true q (asks a b) r (x ∷ xs) u run h f th = taking (asks a b) r x xs u run h f.0 f.1 th (behind (walk d (heard v es) xs) (λ k. h (suc k)))
        step true q (stops a) r [] u run h f th = skip [] u.counts (idle (at_here None (h 0))) (more [] u tt (behind (walk d (heard v es) []) (λ k. h (suc k))) (follows_none d (heard v es)) th)
        step true q (stops a) r (x ∷ xs) u run h f th = taking (stops a) r x xs u run h f.0 f.1 th (behind (walk d (heard v es) xs) (λ k. h (suc k)))

    pub pairs : (i : ℕ) (es : List Event) (n : ℕ) (xs : List Id) (u : Member) → IsRun d u xs → ((k : ℕ) → hd i (n + k) ≡ walk d (heard v es) xs k) → Follows d (heard v es) xs
        → ((y : Id) → In y xs → d.thread y ≡ number F v i) → Both xs (number F v i) u.counts (named i n es)
    pairs i [] n xs u run h f th = (subst (λ (l : List Id). Paired [] l) (sym f) tt, tt)
    pairs i (e ∷ es) n xs u run h f th =
        step i n e es (λ ys w r k g j. pairs i es (suc n) ys w r k g j) (e.guard v) refl (e.told v) refl xs u run h f th

    -- ---- each way

    pub partner_in : (zs : List Name) (ys : List Id) (z : Name) → Paired zs ys → In z zs → (y : Id) × In y ys × IsPartner z y
    partner_in [] ys z p j = absurd j
    partner_in (x ∷ xs) [] z p j = absurd p
    partner_in (x ∷ xs) (y ∷ ys) z p (inl q) = (y, inl refl, subst (λ (u : Name). IsPartner u y) (sym q) p.0)
    partner_in (x ∷ xs) (y ∷ ys) z p (inr j) = let r = partner_in xs ys z p.2 j in (r.0, inr r.1, r.2)

    pub name_in : (zs : List Name) (ys : List Id) (y : Id) → Paired zs ys → In y ys → (z : Name) × In z zs × IsPartner z y
    name_in zs [] y p j = absurd j
    name_in [] (w ∷ ys) y p j = absurd p
    name_in (x ∷ xs) (w ∷ ys) y p (inl q) = (x, inl refl, subst (λ (u : Id). IsPartner x u) (sym q) p.0)
    name_in (x ∷ xs) (w ∷ ys) y p (inr j) = let r = name_in xs ys y p.2 j in (r.0, inr r.1, r.2)

    pub one_partner : (x : Name) (y z : Id) → IsPartner x y → IsPartner x z → y ≡ z
    one_partner x y z p q = some_is (sym p.at ∙ q.at)
      where
        some_is : Some y ≡ Some z → y ≡ z
        some_is e = cc e

    -- ---- places rise together

    pub places : (zs : List Name) (ys : List Id) (x z : Name) (a b : Id) → Paired zs ys → Rising ys → In x zs → In z zs → IsPartner x a → IsPartner z b → x.place < z.place → d.place a < d.place b
    places [] ys x z a b p r j k q s l = absurd j
    places (w ∷ ws) [] x z a b p r j k q s l = absurd p
    places (w ∷ ws) (y ∷ ys) x z a b p r (inl e) (inl f) q s l = absurd (omega (arith, ap (λ (u : Name). u.place) e, ap (λ (u : Name). u.place) f, l))
    places (w ∷ ws) (y ∷ ys) x z a b p r (inl e) (inr k) q s l =
        let t = partner_in ws ys z p.2 k in
        let same : a ≡ y = one_partner w a y (subst (λ (u : Name). IsPartner u a) e q) p.0 in
        let other : b ≡ t.0 = one_partner z b t.0 s t.2 in
        omega (arith, ap d.place same, ap d.place other, each_in (λ u. d.place y < d.place u) ys t.0 r.0 t.1)
    places (w ∷ ws) (y ∷ ys) x z a b p r (inr j) (inl f) q s l = absurd (omega (arith, each_in (λ u. w.place < u.place) ws x p.1 j, ap (λ (u : Name). u.place) f, l))
    places (w ∷ ws) (y ∷ ys) x z a b p r (inr j) (inr k) q s l = places ws ys x z a b p.2 r.1 j k q s l
