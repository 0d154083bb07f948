-- The forms of a script whose main creates threads that create none are forms of its threads.
use Rattle.std.proofs.Common.{◌≡◌, ◌<◌, ◌+◌, ◌-◌, ℕ, zero, suc, Bool, true, false, ◌&&◌, cond, List, [], ◌∷◌, length, drop, get_or, Option, Some, None, slice_get, nat_lt, nat_eq, ◌⊎◌, inl, inr, refl, sym, ap, subst, ◌∙◌, arith, true≢false}
use Rattle.std.specs.List.{list_all}
use Rattle.words.specs.declared.check.Class.TheVariants.{Assertion}
use Rattle.actions.specs.declared.action.Action.TheVariants as action
use Rattle.actions.specs.declared.action.Next.{Next}
use Rattle.actions.specs.declared.action.Next.TheVariants.{Act, Blocked, Broken}
use Rattle.actions.specs.Behaviour.{Thread}
use Rattle.actions.specs.LocalRun.{Exchange, IsLocalRun}
use Rattle.interleave.specs.declared.script.Step.{Step}
use Rattle.interleave.specs.declared.script.Step.TheVariants as step
use Rattle.interleave.specs.Script.{next_at_step, thread_of, start_at}
use Rattle.weave.specs.Candidate.{In}
use Rattle.thread_forms.specs.Forms.{Valuation, Event, Name, Forms, named, names, begun, begins, Goes, heard, Begins, IsCreating, is_create, SameBelow, SameEvent, AreForms}
use Rattle.thread_forms.specs.ScriptBounds.{creates_none, forks_once}
use Rattle.thread_forms.specs.ScriptForms.{told_by, until_last, is_last, creates_at, add_created, created_in, silent, events_from, body, created, start_of, low_of, events_of, creator_of, script_forms, starts_within, is_forking, ScriptsHaveForms}
use Rattle.thread_forms.proofs.Values.{front, back}
use Rattle.thread_forms.proofs.Fitting.{three}
use Rattle.thread_forms.proofs.Stepping.{code_at, runs, then, more, stands_body, gives_from, has_from, alone_from}

abbrev none : ℕ × ℕ
none = (0, 0)

creates_is : (s : Step) (f : ℕ) → creates_at s ≡ Some f → s ≡ step.Create f
creates_is (step.Create g) f e = ap step.Create (cc e)
creates_is _ f e = absurd (cc e)

-- a test of all steps holds of each step up to the last
all_until : (p : Step → Bool) (xs : List Step) (k : ℕ) (s : Step) → list_all p xs ≡ true → slice_get (until_last xs) k ≡ Some s → p s ≡ true
all_until p [] k s h e = absurd (cc e)
all_until p (x ∷ xs) zero s h e = let same : x ≡ s = cc e in ap p (sym same) ∙ front (p x) (list_all p xs) h
all_until p (x ∷ xs) (suc k) s h e = by (is_last x) e (λ q. all_until p xs k s (back (p x) (list_all p xs) h) q)
  where
    by : (b : Bool) → slice_get (cond b [] (until_last xs)) k ≡ Some s → (slice_get (until_last xs) k ≡ Some s → p s ≡ true) → p s ≡ true
    by true q f = absurd (cc q)
    by false q f = f q

-- ---- the Creates among steps

record IsCreated (ss : List Step) (n : ℕ) (p : ℕ × ℕ) : Type 0 where
  at : ℕ
  place : p.0 ≡ n + at
  there : slice_get ss at ≡ Some (step.Create p.1)

behind : (s : Step) (ss : List Step) (n : ℕ) (p : ℕ × ℕ) → IsCreated ss (suc n) p → IsCreated (s ∷ ss) n p
behind s ss n p h = record { at = suc h.at; place = h.place ∙ (let z : suc n + h.at ≡ n + suc h.at = omega arith in z); there = h.there }

created_by : (o : Option ℕ) (s : Step) (ss : List Step) (n i : ℕ) → creates_at s ≡ o → i < length (add_created o n (created_in (suc n) ss)) → ((j : ℕ) → j < length (created_in (suc n) ss) → IsCreated ss (suc n) (get_or (created_in (suc n) ss) j (0, 0)))
    → IsCreated (s ∷ ss) n (get_or (add_created o n (created_in (suc n) ss)) i (0, 0))
created_by None s ss n i e l rec = behind s ss n (get_or (created_in (suc n) ss) i (0, 0)) (rec i l)
created_by (Some f) s ss n zero e l rec = record { at = 0; place = omega arith; there = ap Some (creates_is s f e) }
created_by (Some f) s ss n (suc i) e l rec = behind s ss n (get_or (created_in (suc n) ss) i (0, 0)) (rec i (omega (arith, l)))

is_created : (ss : List Step) (n i : ℕ) → i < length (created_in n ss) → IsCreated ss n (get_or (created_in n ss) i (0, 0))
is_created [] n i l = absurd (omega (arith, l))
is_created (s ∷ ss) n i l = created_by (creates_at s) s ss n i refl l (λ j k. is_created ss (suc n) j k)

-- each Create is among them
find_by : (o : Option ℕ) (s : Step) (ss : List Step) (n k f : ℕ) → creates_at s ≡ o → slice_get (s ∷ ss) k ≡ Some (step.Create f) → ((j : ℕ) → slice_get ss j ≡ Some (step.Create f) → (i : ℕ) × (i < length (created_in (suc n) ss)) × (get_or (created_in (suc n) ss) i (0, 0) ≡ (suc n + j, f)))
    → (i : ℕ) × (i < length (add_created o n (created_in (suc n) ss))) × (get_or (add_created o n (created_in (suc n) ss)) i (0, 0) ≡ (n + k, f))
find_by None s ss n zero f e h rec = let q : None ≡ Some f = sym e ∙ ap creates_at (let z : s ≡ step.Create f = cc h in z) in absurd (cc q)
find_by None s ss n (suc k) f e h rec = let r = rec k h in (r.0, r.1, r.2 ∙ (let z : suc n + k ≡ n + suc k = omega arith in λ j. (z j, f)))
find_by (Some g) s ss n zero f e h rec =
    let q : Some g ≡ Some f = sym e ∙ ap creates_at (let z : s ≡ step.Create f = cc h in z) in
    let same : g ≡ f = cc q in
    let z : n ≡ n + 0 = omega arith in
    (0, omega arith, λ j. (z j, same j))
find_by (Some g) s ss n (suc k) f e h rec = let r = rec k h in (suc r.0, omega (arith, r.1), r.2 ∙ (let z : suc n + k ≡ n + suc k = omega arith in λ j. (z j, f)))

find : (ss : List Step) (n k f : ℕ) → slice_get ss k ≡ Some (step.Create f) → (i : ℕ) × (i < length (created_in n ss)) × (get_or (created_in n ss) i (0, 0) ≡ (n + k, f))
find [] n k f h = absurd (cc h)
find (s ∷ ss) n k f h = find_by (creates_at s) s ss n k f refl h (λ j q. find ss (suc n) j f q)

-- their places rise
rise_by : (o : Option ℕ) (ss : List Step) (n i j : ℕ) → i < j → j < length (add_created o n (created_in (suc n) ss)) → ((p q : ℕ) → p < q → q < length (created_in (suc n) ss) → (get_or (created_in (suc n) ss) p (0, 0)).0 < (get_or (created_in (suc n) ss) q (0, 0)).0)
    → (get_or (add_created o n (created_in (suc n) ss)) i (0, 0)).0 < (get_or (add_created o n (created_in (suc n) ss)) j (0, 0)).0
rise_by None ss n i j l b rec = rec i j l b
rise_by (Some f) ss n i zero l b rec = absurd (omega (arith, l))
rise_by (Some f) ss n zero (suc j) l b rec = let h = is_created ss (suc n) j (omega (arith, b)) in omega (arith, h.place)
rise_by (Some f) ss n (suc i) (suc j) l b rec = rec i j (omega (arith, l)) (omega (arith, b))

rise : (ss : List Step) (n i j : ℕ) → i < j → j < length (created_in n ss) → (get_or (created_in n ss) i (0, 0)).0 < (get_or (created_in n ss) j (0, 0)).0
rise [] n i j l b = absurd (omega (arith, b))
rise (s ∷ ss) n i j l b = rise_by (creates_at s) ss n i j l b (λ p q k h. rise ss (suc n) p q k h)

-- ---- events and names

name_in : (i n : ℕ) (es : List Event) (k q : ℕ) → q ≡ n + k → k < length es → In (record { form = i; place = q; event = get_or es k silent }) (named i n es)
name_in i n [] k q e l = absurd (omega (arith, l))
name_in i n (x ∷ es) zero q e l = inl (let z : q ≡ n = omega (arith, e) in λ j. record { form = i; place = z j; event = x })
name_in i n (x ∷ es) (suc k) q e l = inr (name_in i (suc n) es k q (e ∙ (let z : n + suc k ≡ suc n + k = omega arith in z)) (omega (arith, l)))

name_is : (i n : ℕ) (es : List Event) (x : Name) → In x (named i n es) → (k : ℕ) × (k < length es) × (x ≡ record { form = i; place = n + k; event = get_or es k silent })
name_is i n [] x k = absurd k
name_is i n (e ∷ es) x (inl q) = (0, omega arith, q ∙ (let z : n ≡ n + 0 = omega arith in λ j. record { form = i; place = z j; event = e }))
name_is i n (e ∷ es) x (inr k) = let r = name_is i (suc n) es x k in (suc r.0, omega (arith, r.1), r.2 ∙ (let z : suc n + r.0 ≡ n + suc r.0 = omega arith in λ j. record { form = i; place = z j; event = get_or es r.0 silent }))

module _ (steps : List Step) where
  abbrev many : ℕ
  many = length steps

  -- the event at a place tells the step there
  record Tells (ss : List Step) (e : Event) (k : ℕ) : Type 0 where
    at : Step
    there : slice_get ss k ≡ Some at
    tells : (v : Valuation) → (r m : ℕ) × (e.told v ≡ told_by (next_at_step many r at) m)

  tells_at : (ss : List Step) (x : ℕ) (register : Valuation → ℕ) (goes : Valuation → Bool) (k : ℕ) → k < length (events_from steps ss x register goes) → Tells ss (get_or (events_from steps ss x register goes) k silent) k
  tells_at [] x register goes k l = absurd (omega (arith, l))
  tells_at (s ∷ ss) x register goes zero l = record { at = s; there = refl; tells = λ v. (register v, v x, refl) }
  tells_at (s ∷ ss) x register goes (suc k) l =
      let r = tells_at ss (suc x) (then steps s x register goes) (more steps s x register goes) k (omega (arith, l)) in
      record { at = r.at; there = r.there; tells = r.tells }

  count : (ss : List Step) (x : ℕ) (register : Valuation → ℕ) (goes : Valuation → Bool) → length (events_from steps ss x register goes) ≡ length ss
  count [] x register goes = refl
  count (s ∷ ss) x register goes = ap suc (count ss (suc x) (then steps s x register goes) (more steps s x register goes))

  within : (ss : List Step) (k : ℕ) (s : Step) → slice_get ss k ≡ Some s → k < length ss
  within ss k s e = Rattle.std.proofs.lemmas.Option.slice_get_within ss k s e

  -- only a Create tells a Create
  create_told : (b : Bool) (f m : ℕ) → is_create (told_by (cond b (Act (action.Create f 0) 1 0) Blocked) m) ≡ true → (g : ℕ) × (step.Create f ≡ step.Create g)
  create_told b f m e = (f, refl)

  assert_told : (b : Bool) (m : ℕ) → is_create (told_by (cond b (Act (action.Free 0) 1 0) (Broken Assertion 1 0)) m) ≡ false
  assert_told true m = refl
  assert_told false m = refl

  only_create : (r m : ℕ) (s : Step) → is_create (told_by (next_at_step many r s) m) ≡ true → (f : ℕ) × (s ≡ step.Create f)
  only_create r m (step.Create f) e = (f, refl)
  only_create r m (step.Assert n) e = absurd (true≢false (sym e ∙ assert_told (nat_eq r n) m))
  only_create r m _ e = absurd (true≢false (sym e))

  module _ (fork : is_forking steps ≡ true) where
    abbrev F : Forms
    F = script_forms steps

    abbrev t : Thread
    t = thread_of steps (start_at 0)

    abbrev test : Step → Bool
    test s = forks_once steps s && starts_within steps s

    abbrev main_steps : List Step
    main_steps = body steps 0

    -- the i-th Create of main
    record HasCreator (i : ℕ) : Type 0 where
      function : ℕ
      is_start : start_of steps (suc i) ≡ function
      starts : nat_lt function many ≡ true
      forks : list_all creates_none (drop function steps) ≡ true
      listed : In (creator_of steps i) (names F 0)
      tells : (v : Valuation) → (m : ℕ) × ((creator_of steps i).event.told v ≡ told_by (Act (action.Create function 0) 1 0) m)

    has_creator : (i : ℕ) → i < length (created steps) → HasCreator i
    has_creator i l =
        let p : ℕ × ℕ = get_or (created steps) i (0, 0) in
        let h : IsCreated main_steps 0 (get_or (created steps) i (0, 0)) = is_created main_steps 0 i l in
        let ok : test (step.Create (get_or (created steps) i (0, 0)).1) ≡ true = all_until test steps h.at (step.Create (get_or (created steps) i (0, 0)).1) fork h.there in
        let starts : nat_lt (get_or (created steps) i (0, 0)).1 many ≡ true = back (forks_once steps (step.Create (get_or (created steps) i (0, 0)).1)) (starts_within steps (step.Create (get_or (created steps) i (0, 0)).1)) ok in
        let place : (get_or (created steps) i (0, 0)).0 ≡ h.at = omega (arith, h.place) in
        let low : (get_or (created steps) i (0, 0)).0 < length (events_of steps 0) = omega (arith, place, within main_steps h.at (step.Create (get_or (created steps) i (0, 0)).1) h.there, count main_steps 0 (λ v. 0) (λ v. true)) in
        let r : Tells main_steps (get_or (events_of steps 0) (get_or (created steps) i (0, 0)).0 silent) (get_or (created steps) i (0, 0)).0 = tells_at main_steps 0 (λ v. 0) (λ v. true) (get_or (created steps) i (0, 0)).0 low in
        let same : r.at ≡ step.Create (get_or (created steps) i (0, 0)).1 = some_is r.at (step.Create (get_or (created steps) i (0, 0)).1) (sym r.there ∙ ap (slice_get main_steps) place ∙ h.there) in
        record {
          function = (get_or (created steps) i (0, 0)).1;
          is_start = refl;
          starts = starts;
          forks = front (forks_once steps (step.Create (get_or (created steps) i (0, 0)).1)) (starts_within steps (step.Create (get_or (created steps) i (0, 0)).1)) ok;
          listed = name_in 0 0 (events_of steps 0) (get_or (created steps) i (0, 0)).0 (get_or (created steps) i (0, 0)).0 (omega arith) low;
          tells = λ v.
              let d = r.tells v in (
                d.1,
                d.2 ∙ ap (λ (s : Step). told_by (next_at_step many d.0 s) d.1) same
                    ∙ ap (λ (b : Bool). told_by (cond b (Act (action.Create (get_or (created steps) i (0, 0)).1 0) 1 0) Blocked) d.1) starts,
              );
        }
      where
        some_is : (a b : Step) → Some a ≡ Some b → a ≡ b
        some_is a b e = cc e

    inner : (i : ℕ) → suc i < suc (length (created steps)) → i < length (created steps)
    inner i l = omega (arith, l)

    begins_is : (v : Valuation) (i : ℕ) → i < suc (length (created steps)) → begins F t v i ≡ runs steps (start_of steps i) 0
    begins_is v zero l = refl
    begins_is v (suc i) l = let h = has_creator i (inner i l) in ap (begun t) (h.tells v).1 ∙ ap (λ (f : ℕ). runs steps f 0) (sym h.is_start)

    gives : (v : Valuation) (i : ℕ) → i < suc (length (created steps)) → Goes v (begins F t v i) (events_of steps i)
    gives v i l = gives_from steps v (body steps (start_of steps i)) (start_of steps i) (low_of steps i) (λ w. 0) (λ w. true) (begins F t v i) (stands_body steps (start_of steps i)) (λ e. begins_is v i l) (λ e. absurd (true≢false e))

    -- the numbers of a run's answers stand from x on
    below : (x : ℕ) (run : List Exchange) (v : Valuation) → SameBelow x v (λ y. cond (nat_lt y x) (v y) (code_at steps run (y - x)))
    below x run v y l = sym (ap (λ (b : Bool). cond b (v y) (code_at steps run (y - x))) (Rattle.std.proofs.lemmas.Bool.lt-ltb y x l))

    above : (x : ℕ) (run : List Exchange) (v : Valuation) (j : ℕ) → cond (nat_lt (x + j) x) (v (x + j)) (code_at steps run ((x + j) - x)) ≡ code_at steps run j
    above x run v j = ap (λ (b : Bool). cond b (v (x + j)) (code_at steps run ((x + j) - x))) (Rattle.std.proofs.lemmas.Bool.le-ltb (x + j) x (omega arith)) ∙ ap (code_at steps run) (let z : (x + j) - x ≡ j = omega arith in z)

    has : (v : Valuation) (i : ℕ) → i < suc (length (created steps)) → (run : List Exchange) (next : Next) → IsLocalRun (begins F t v i) run next → (w : Valuation) × SameBelow (low_of steps i) v w × Begins run next (heard w (events_of steps i))
    has v i l run next h = (
      λ y. cond (nat_lt y (low_of steps i)) (v y) (code_at steps run (y - low_of steps i)),
      below (low_of steps i) run v,
      has_from steps (λ y. cond (nat_lt y (low_of steps i)) (v y) (code_at steps run (y - low_of steps i))) (body steps (start_of steps i)) (start_of steps i) (low_of steps i) (λ w. 0) (λ w. true) run next (stands_body steps (start_of steps i)) refl
          (above (low_of steps i) run v) (subst (λ (b : Rattle.actions.specs.Behaviour.Behaviour). IsLocalRun b run next) (begins_is v i l) h),
    )

    alone : (i : ℕ) (v w : Valuation) → SameBelow (low_of steps (suc i)) v w → (x : Name) → In x (names F i) → SameEvent v w x.event
    alone i v w s x k = alone_from steps v w (body steps (start_of steps i)) (low_of steps i) (λ z. 0) (λ z. true) refl refl s i 0 x k

    once : (i j : ℕ) → suc i < suc (length (created steps)) → suc j < suc (length (created steps)) → creator_of steps i ≡ creator_of steps j → i ≡ j
    once i j l b e = by (three i j)
      where
        by : (i < j) ⊎ ((i ≡ j) ⊎ (j < i)) → i ≡ j
        by (inl h) = absurd (omega (arith, rise main_steps 0 i j h (omega (arith, b)), ap (λ (x : Name). x.place) e))
        by (inr (inl q)) = q
        by (inr (inr h)) = absurd (omega (arith, rise main_steps 0 j i h (omega (arith, l)), ap (λ (x : Name). x.place) e))

    -- an event that can tell a Create, by its form
    tells_create : (v : Valuation) (x : Name) (i : ℕ) → In x (names F i) → is_create (x.event.told v) ≡ true
        → (k f : ℕ) × (slice_get (body steps (start_of steps i)) k ≡ Some (step.Create f)) × (x ≡ record { form = i; place = 0 + k; event = get_or (events_of steps i) k silent })
    tells_create v x i k e =
        let n = name_is i 0 (events_of steps i) x k in
        let r : Tells (body steps (start_of steps i)) (get_or (events_of steps i) n.0 silent) n.0 = tells_at (body steps (start_of steps i)) (low_of steps i) (λ w. 0) (λ w. true) n.0 n.1 in
        let d = r.tells v in
        let is : is_create (told_by (next_at_step many d.0 r.at) d.1) ≡ true = ap is_create (sym d.2) ∙ ap (λ (y : Name). is_create (y.event.told v)) (sym n.2) ∙ e in
        let f = only_create d.0 d.1 r.at is in
        (n.0, f.0, r.there ∙ ap Some f.1, n.2)

    whole_by : (v : Valuation) (x : Name) (i : ℕ) → i < suc (length (created steps)) → In x (names F i) → is_create (x.event.told v) ≡ true → (j : ℕ) × (suc j < suc (length (created steps))) × (creator_of steps j ≡ x)
    whole_by v x zero l k e =
        let c = tells_create v x 0 k e in
        let r = find main_steps 0 c.0 c.1 c.2 in
        (r.0, omega (arith, r.1), ap (λ (p : ℕ × ℕ). record { form = 0; place = p.0; event = get_or (events_of steps 0) p.0 silent }) r.2 ∙ (let z : 0 + c.0 ≡ c.0 = omega arith in λ i. record { form = 0; place = 0 + c.0; event = get_or (events_of steps 0) (z i) silent }) ∙ sym c.3)
    whole_by v x (suc i) l k e =
        let c = tells_create v x (suc i) k e in
        let h = has_creator i (inner i l) in
        absurd (true≢false (sym (all_until creates_none (drop (start_of steps (suc i)) steps) c.0 (step.Create c.1) (subst (λ (f : ℕ). list_all creates_none (drop f steps) ≡ true) (sym h.is_start) h.forks) c.2)))

    are_forms : AreForms t F
    are_forms = record {
      some = omega arith;
      gives = gives;
      has = has;
      alone = λ i l v w s x k. alone i v w s x k;
      rises = λ i. omega arith;
      earlier = λ i. omega arith;
      placed = λ i l. (has_creator i (inner i l)).listed;
      creating = λ i l v. subst IsCreating (sym ((has_creator i (inner i l)).tells v).1) tt;
      once = once;
      whole = λ v x l k e. whole_by v x x.form l k e;
    }

pub scripts_have_forms : ScriptsHaveForms
scripts_have_forms = λ steps fork. are_forms steps fork
