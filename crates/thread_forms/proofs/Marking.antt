-- The joined valuation, with the marks that the events of the run leave, meets the conditions.
use Rattle.std.proofs.Common.{◌≡◌, ◌<◌, ◌+◌, ℕ, zero, suc, Bool, true, false, ◌&&◌, List, [], ◌∷◌, Option, Some, None, ◌⊎◌, inl, inr, refl, sym, ap, subst, ◌∙◌, arith, true≢false}
use Rattle.actions.specs.declared.action.Action.TheVariants.{Create}
use Rattle.actions.specs.declared.action.Next.{Next}
use Rattle.actions.specs.declared.action.Next.TheVariants.{Act}
use Rattle.actions.specs.Behaviour.{Thread}
use Rattle.actions.specs.Memory.{starts}
use Rattle.actions.specs.Objects.{Objects}
use Rattle.actions.specs.Row.{Row, Outcome, outcome_in}
use Rattle.actions.specs.Table.{Mode}
use Rattle.weave.specs.Place.{Place, value_at, ReadsPlace, written}
use Rattle.weave.specs.Step.{row_by, mode_by, change_by}
use Rattle.weave.specs.Candidate.{Candidate, In, Each, Executed, outcome_at, change_at, mode_at, ReadsAt, written_at, WritesAt, Later}
use Rattle.weave.specs.Consistent.{main_member, IsChild, IsLast, Groups, IsSource, IsConsistent, inside_after}
use Rattle.weave.specs.Consistent as consistent
use Rattle.weave.specs.Family.{IsFamily}
use Rattle.weave.proofs.Lists.{each_in}
use Rattle.weave.proofs.Touching.{creating}
use Rattle.weave.proofs.Numbering.{moves_by, number_of, one_creator}
use Rattle.thread_forms.specs.Forms.{Valuation, Told, passes, asks, stops, Event, Name, Forms, named, names, number, number_told, heard_if, heard_at, heard, is_create, AreForms}
use Rattle.thread_forms.specs.Valued.{Marks, told, executed, taken, turns, candidate, IsTaken, is_turn, breaks_by, own_told, next_told}
use Rattle.thread_forms.specs.Meets.{GoesPast, Answers, first_counts, Orders, IsLastName, FollowsName, NameGroups, SourceAt, Meets}
use Rattle.thread_forms.specs.Runs.{IsSame, TellsRun, RunsGiveValuations}
use Rattle.thread_forms.proofs.Prefixes.{in_named}
use Rattle.thread_forms.proofs.Forming.{kept_in, there_of, one_form}
use Rattle.thread_forms.proofs.Consistent.{keep_in}
use Rattle.thread_forms.proofs.Walking.{At, walk_idle, past}
use Rattle.thread_forms.proofs.Pairing.{is_there, clock_of, view_of, marks_of, rising, IsPartner, Paired, name_in, one_partner, places}
use Rattle.thread_forms.proofs.Joining.{hd_of, head_at, From, Joined, IsBorn, born, both_of, taken_partner, executed_in, positive, joined}

-- which of two numbers is less
three : (a b : ℕ) → (a < b) ⊎ ((a ≡ b) ⊎ (b < a))
three zero zero = inr (inl refl)
three zero (suc b) = inl (omega arith)
three (suc a) zero = inr (inr (omega arith))
three (suc a) (suc b) = by (three a b)
  where
    by : (a < b) ⊎ ((a ≡ b) ⊎ (b < a)) → (suc a < suc b) ⊎ ((suc a ≡ suc b) ⊎ (suc b < suc a))
    by (inl l) = inl (omega arith)
    by (inr (inl e)) = inr (inl (ap suc e))
    by (inr (inr l)) = inr (inr (omega arith))

same_name : (i n : ℕ) (es : List Event) (x z : Name) → In x (named i n es) → In z (named i n es) → x.place ≡ z.place → x ≡ z
same_name i n [] x z j k q = absurd j
same_name i n (e ∷ es) x z (inl f) (inl g) q = f ∙ sym g
same_name i n (e ∷ es) x z (inl f) (inr k) q = absurd (omega (arith, ap (λ (y : Name). y.place) f, (in_named i (suc n) es z k).1, q))
same_name i n (e ∷ es) x z (inr j) (inl g) q = absurd (omega (arith, ap (λ (y : Name). y.place) g, (in_named i (suc n) es x j).1, q))
same_name i n (e ∷ es) x z (inr j) (inr k) q = same_name i (suc n) es x z j k q

create_told : (d : Told) (f u line within : ℕ) → is_turn d ≡ true → next_told d ≡ Act (Create f u) line within → is_create d ≡ true
create_told passes f u line within b e = absurd (true≢false (sym b))
create_told (asks n a) f u line within b e = ap (λ (z : Next). is_create (asks z a)) e
create_told (stops n) f u line within b e = absurd (true≢false (sym b ∙ ap breaks_by e))

module _ {Id : Type 0} (d : Candidate Id) (t : Thread) (objects : Objects) (F : Forms) (family : IsFamily t) (forms : AreForms t F) (h : IsConsistent d t objects) (v : Valuation) (runs : ℕ → List Id) (j : Joined d t objects F family forms h F.many v runs) where
  abbrev hd : ℕ → ℕ → Option Id
  hd = hd_of d t objects F family forms h v runs

  abbrev pub m : Marks
  m = marks_of d hd

  abbrev c : Candidate Name
  c = candidate F v m

  abbrev P : Name → Id → Type 0
  P x y = IsPartner d F v hd x y

  -- ---- an event and the one that stands for it

  outcome_same : (x : Name) (y : Id) → P x y → outcome_at c x ≡ outcome_at d y
  outcome_same x y p =
      ap (λ (o : Option Id). outcome_in (view_of d o) (row_by (number F v x.form) (own_told (x.event.told v)) (next_told (x.event.told v)))) p.at ∙ ap (λ (r : Row). outcome_in (d.view y) r) (sym p.rows)

  clock_same : (x : Name) (y : Id) → P x y → m.clock x.form x.place ≡ d.clock y
  clock_same x y p = ap (clock_of d) p.at

  mode_same : (x : Name) (y : Id) → P x y → mode_at c x ≡ mode_at d y
  mode_same x y p = ap mode_by (sym p.next)

  value_same : (x : Name) (y : Id) (q : Place) → P x y → value_at (m.view x.form x.place) q ≡ value_at (d.view y) q
  value_same x y q p = ap (λ (o : Option Id). value_at (view_of d o) q) p.at

  written_same : (x : Name) (y : Id) (q : Place) → P x y → written_at c x q ≡ written_at d y q
  written_same x y q p = ap (λ (o : Outcome). written (change_by o) q) (outcome_same x y p)

  reads_to : (x : Name) (y : Id) (q : Place) → P x y → ReadsAt c x q → ReadsAt d y q
  reads_to x y q p r =
      subst (λ (z : Row). ReadsPlace (d.view y) z q) (sym p.rows) (subst (λ (o : Option Id). ReadsPlace (view_of d o) (row_by (number F v x.form) (own_told (x.event.told v)) (next_told (x.event.told v))) q) p.at r)

  writes_to : (x : Name) (y : Id) (q : Place) → P x y → WritesAt c x q → WritesAt d y q
  writes_to x y q p w = (w.0, sym (written_same x y q p) ∙ w.1)

  partner : (x : Name) → IsTaken F v m x → (y : Id) × In y (runs x.form) × P x y
  partner x k = taken_partner d t objects F family forms h F.many v runs j x k.form k.listed k.taken_there

  there_in : (x : Name) (k : IsTaken F v m x) → Executed d (partner x k).0
  there_in x k = executed_in d t objects F family forms h F.many v runs j x.form k.form (partner x k).0 (partner x k).1

  -- ---- conditions on the events of one form

  at_in : (i n : ℕ) (es : List Event) (x : Name) → In x (named i n es) → (k : ℕ) × (x.place ≡ n + k) × At d (heard v es) k (heard_at v x.event)
  at_in i n [] x k = absurd k
  at_in i n (e ∷ es) x (inl q) = (0, omega (arith, ap (λ (y : Name). y.place) q), ap (λ (y : Name). heard_at v y.event) (sym q))
  at_in i n (e ∷ es) x (inr k) = let r = at_in i (suc n) es x k in (suc r.0, omega (arith, r.1), r.2)

  at_name : (i : ℕ) (x : Name) → In x (names F i) → At d (heard v (F.events i)) x.place (heard_at v x.event)
  at_name i x k = let r = at_in i 0 (F.events i) x k in subst (λ (z : ℕ). At d (heard v (F.events i)) z (heard_at v x.event)) (place_is r.0 r.1) r.2
    where
      place_is : (z : ℕ) → x.place ≡ 0 + z → z ≡ x.place
      place_is z q = omega (arith, q)

  some_of : (o : Option Id) → is_there d o ≡ true → (y : Id) × (o ≡ Some y)
  some_of None e = absurd (true≢false (sym e))
  some_of (Some y) e = (y, refl)

  guarded : (x : Name) → In x (names F x.form) → executed F v m x ≡ true → x.event.guard v ≡ true
  guarded x i e = by (x.event.guard v) refl
    where
      by : (g : Bool) → x.event.guard v ≡ g → g ≡ true
      by true q = refl
      by false q =
          absurd (true≢false (sym e ∙ ap (is_there d) (walk_idle d (heard v (F.events x.form)) (runs x.form) x.place (subst (λ (b : Bool). At d (heard v (F.events x.form)) x.place (heard_if b (x.event.told v))) q (at_name x.form x i)))))

  past_by : (x : Name) (y : Id) → x.form < F.many → In x (names F x.form) → hd x.form x.place ≡ Some y → (z : Told) → x.event.told v ≡ z → GoesPast z (outcome_at d y) → GoesPast (x.event.told v) (outcome_at c x)
  past_by x y l i q passes r g = subst (λ (z : Told). GoesPast z (outcome_at c x)) (sym r) tt
  past_by x y l i q (stops n) r g = absurd g
  past_by x y l i q (asks n a) r g =
      let k : IsTaken F v m x = record { form = l; listed = i; taken_there = ap (λ (o : Option Id). is_there d o && is_turn (x.event.told v)) q ∙ ap is_turn r } in
      let p = partner x k in
      let same : p.0 ≡ y = some_is p.0 (sym p.2.at ∙ q) in
      subst (λ (z : Told). GoesPast z (outcome_at c x)) (sym r) (subst (λ (o : Outcome). GoesPast (asks n a) o) (sym (outcome_same x p.0 p.2 ∙ ap (outcome_at d) same)) g)
    where
      some_is : (z : Id) → Some z ≡ Some y → z ≡ y
      some_is z e = cc e

  before : (x y : Name) → x.form < F.many → In x (names F x.form) → In y (names F x.form) → x.place < y.place → executed F v m y ≡ true → x.event.guard v ≡ true → (executed F v m x ≡ true) × GoesPast (told F v m x) (outcome_at c x)
  before x y l i k less e g =
      let form : y.form ≡ x.form = (in_named x.form 0 (F.events x.form) y k).0 in
      let z = some_of (hd y.form y.place) e in
      let s = j.started x.form l in
      let r = past d (heard v (F.events x.form)) (runs x.form) x.place y.place (x.event.told v) z.0 (record { thread = s.0; counts = first_counts objects x.form }, s.1) (j.follows x.form l)
      (subst (λ (b : Bool). At d (heard v (F.events x.form)) x.place (heard_if b (x.event.told v))) g (at_name x.form x i)) (ap (λ (f : ℕ). hd f y.place) (sym form) ∙ z.1) less in
      (ap (is_there d) r.1, past_by x r.0 l i r.1 (x.event.told v) refl r.2)

  answers : (x : Name) → IsTaken F v m x → Answers (told F v m x) (outcome_at c x)
  answers x k = let p = partner x k in subst (λ (o : Outcome). Answers (x.event.told v) o) (sym (outcome_same x p.0 p.2)) p.2.answers

  born_here : (i : ℕ) → suc i < F.many → (b : Id) → head_at d t objects F family forms h v runs (F.creator i) ≡ Some b → IsBorn d t objects F family forms h F.many v runs j i b
  born_here i l b q = born d t objects F family forms h F.many v runs j i l (omega (arith, forms.earlier i)) b q

  later_child : (i k : ℕ) (b y : Id) (w : IsBorn d t objects F family forms h F.many v runs j i b) → number F v (suc i) ≡ suc k → In y (d.runs (suc k)) → (d.runs (suc k) ≡ []) ⊎ IsChild d (main_member t objects) (suc k) → d.clock b < d.clock y
  later_child i k b y w e z (inl q) = absurd (subst (λ (l : List Id). In y l) q z)
  later_child i k b y w e z (inr r) =
      let n : w.told.number ≡ suc k = sym (ap number_told w.told.tells) ∙ e in
      let mine : change_at d b ≡ starts (suc k) w.told.function w.told.value = w.starts_is ∙ ap (λ (x : ℕ). starts x w.told.function w.told.value) n in
      let one : r.creator ≡ b = one_creator d t objects family h r.creator b (suc k) r.executed w.executed (r.function, r.value, r.creates) (w.told.function, w.told.value, mine) in
      omega (arith, ap d.clock one, each_in (λ x. d.clock r.creator < d.clock x) (d.runs (suc k)) y r.after z)

  created_by : (i : ℕ) → suc i < F.many → (x : Name) (y : Id) → P x y → In y (runs (suc i)) → From d t objects F family forms h v runs (suc i)
      → (taken F v m (F.creator i) ≡ true) × (m.clock (F.creator i).form (F.creator i).place < m.clock x.form x.place)
  created_by i l x y p z (inl f) = absurd (subst (λ (ys : List Id). In y ys) f.1 z)
  created_by i l x y p z (inr f) =
      let w = born_here i l f.0 f.1 in
      let own : In y (d.runs (number F v (suc i))) = subst (λ (ys : List Id). In y ys) f.2 z in
      let n = positive (number F v (suc i)) (above w) in
      let less : d.clock f.0 < d.clock y = later_child i n.0 f.0 y w n.1 (subst (λ (k : ℕ). In y (d.runs k)) n.1 own) (h.children n.0) in (
        ap (λ (o : Option Id). is_there d o && is_turn ((F.creator i).event.told v)) f.1 ∙ ap is_turn w.told.tells,
        omega (arith, ap (clock_of d) f.1, clock_same x y p, less),
      )
    where
      above : IsBorn d t objects F family forms h F.many v runs j i f.0 → 0 < number F v (suc i)
      above w =
          let n = number_of d t objects family h f.0 w.told.number w.executed (w.told.function, w.told.value, w.starts_is) in
          omega (arith, ap number_told w.told.tells, n.number, n.over)

  created : (i : ℕ) (x : Name) → x.form ≡ suc i → IsTaken F v m x → (taken F v m (F.creator i) ≡ true) × (m.clock (F.creator i).form (F.creator i).place < m.clock x.form x.place)
  created i x e k =
      let p = partner x k in
      let l : suc i < F.many = omega (arith, e, k.form) in
      created_by i l x p.0 p.2 (subst (λ (f : ℕ). In p.0 (runs f)) e p.1) (j.from (suc i) l)

  pub orders : Orders F v m objects
  orders = record {
    guarded = λ x l i e. guarded x i e;
    before = before;
    answers = answers;
    numbers = λ i l. (both_of d t objects F family forms h F.many v runs j i l).1;
    created = created;
  }

  -- ---- two taken events

  same_form : (x z : Name) → IsTaken F v m x → IsTaken F v m z → number F v x.form ≡ number F v z.form → x.form ≡ z.form
  same_form x z k l e = one_form t objects F v m family forms orders x.form z.form k.form l.form (there_of t objects F v m family forms orders x k) (there_of t objects F v m family forms orders z l) e

  groups_by : (i : ℕ) → From d t objects F family forms h v runs i → Groups d false (runs i)
  groups_by zero f = subst (λ (l : List Id). Groups d false l) (sym f) (h.groups 0)
  groups_by (suc i) (inl f) = subst (λ (l : List Id). Groups d false l) (sym f.1) tt
  groups_by (suc i) (inr f) = subst (λ (l : List Id). Groups d false l) (sym f.2) (h.groups (number F v (suc i)))

  groups_at : (i : ℕ) → i < F.many → Groups d false (runs i)
  groups_at i l = groups_by i (j.from i l)

  listed_in : (x z : Name) → x.form ≡ z.form → IsTaken F v m z → In z (turns F v m x.form)
  listed_in x z e l = subst (λ (f : ℕ). In z (turns F v m f)) (sym e) (kept_in (taken F v m) (names F z.form) z l.taken_there l.listed)

  place_to : (x z : Name) (a b : Id) → IsTaken F v m x → IsTaken F v m z → P x a → P z b → x.form ≡ z.form → x.place < z.place → d.place a < d.place b
  place_to x z a b k l p q e less =
      places d F v hd (turns F v m x.form) (runs x.form) x z a b (both_of d t objects F family forms h F.many v runs j x.form k.form).0 (rising d false (runs x.form) (groups_at x.form k.form)) (listed_in x x refl k) (listed_in x z e l) p q less

  name_by : (x z : Name) → IsTaken F v m x → IsTaken F v m z → x.form ≡ z.form → x.place ≡ z.place → x ≡ z
  name_by x z k l e q = same_name x.form 0 (F.events x.form) x z k.listed (subst (λ (f : ℕ). In z (names F f)) (sym e) l.listed) q

  number_same : (x z : Name) (a b : Id) → P x a → P z b → d.thread a ≡ d.thread b → number F v x.form ≡ number F v z.form
  number_same x z a b p q e = sym p.thread ∙ e ∙ q.thread

  one_name : (x z : Name) (a : Id) → IsTaken F v m x → IsTaken F v m z → P x a → P z a → x ≡ z
  one_name x z a k l p q = by (three x.place z.place)
    where
      form : x.form ≡ z.form
      form = same_form x z k l (number_same x z a a p q refl)

      by : (x.place < z.place) ⊎ ((x.place ≡ z.place) ⊎ (z.place < x.place)) → x ≡ z
      by (inl r) = absurd (omega (arith, place_to x z a a k l p q form r))
      by (inr (inl r)) = name_by x z k l form r
      by (inr (inr r)) = absurd (omega (arith, place_to z x a a l k q p (sym form) r))

  place_back : (x z : Name) (a b : Id) → IsTaken F v m x → IsTaken F v m z → P x a → P z b → d.thread a ≡ d.thread b → d.place a < d.place b → x.place < z.place
  place_back x z a b k l p q e less = by (three x.place z.place)
    where
      form : x.form ≡ z.form
      form = same_form x z k l (number_same x z a b p q e)

      by : (x.place < z.place) ⊎ ((x.place ≡ z.place) ⊎ (z.place < x.place)) → x.place < z.place
      by (inl r) = r
      by (inr (inl r)) = absurd (omega (arith, ap d.place (one_partner d F v hd z a b (subst (λ (u : Name). P u a) (name_by x z k l form r) p) q), less))
      by (inr (inr r)) = absurd (omega (arith, place_to z x b a l k q p (sym form) r, less))

  later_to : (x z : Name) (a b : Id) → IsTaken F v m x → IsTaken F v m z → P x a → P z b → Later c z x → Later d b a
  later_to x z a b k l p q (inl r) = inl (omega (arith, clock_same x a p, clock_same z b q, r))
  later_to x z a b k l p q (inr r) =
      inr (sym (clock_same x a p) ∙ r.0 ∙ clock_same z b q, p.thread ∙ r.1 ∙ sym q.thread, place_to x z a b k l p q (same_form x z k l r.1) r.2)

  later_back : (x z : Name) (a b : Id) → IsTaken F v m x → IsTaken F v m z → P x a → P z b → Later d b a → Later c z x
  later_back x z a b k l p q (inl r) = inl (omega (arith, clock_same x a p, clock_same z b q, r))
  later_back x z a b k l p q (inr r) =
      inr (clock_same x a p ∙ r.0 ∙ sym (clock_same z b q), number_same x z a b p q r.1, place_back x z a b k l p q r.1 r.2)

  last_to : (x : Name) (y : Id) → P x y → IsLast d y → IsLastName F v m x
  last_to x y p last z l a =
      let q = partner z l in
      omega (arith, clock_same x y p, clock_same z q.0 q.2, last q.0 (there_in z l) (λ e. a (number_same z x q.0 y q.2 p e)))

  follows_name : (b : Bool) (x : Name) (xs : List Name) (y : Id) (ys : List Id) → P x y → Each (λ z. x.place < z.place) xs → Paired d F v hd xs ys → consistent.Follows d b y ys → FollowsName F v m b x xs
  follows_name true x [] y [] p e q f = last_to x y p f
  follows_name true x [] y (b ∷ ys) p e q f = absurd q
  follows_name true x (z ∷ xs) y [] p e q f = absurd q
  follows_name true x (z ∷ xs) y (b ∷ ys) p e q f = (clock_same z b q.0 ∙ f.0 ∙ sym (clock_same x y p), e.0)
  follows_name false x [] y [] p e q f = tt
  follows_name false x [] y (b ∷ ys) p e q f = absurd q
  follows_name false x (z ∷ xs) y [] p e q f = absurd q
  follows_name false x (z ∷ xs) y (b ∷ ys) p e q f = (omega (arith, clock_same x y p, clock_same z b q.0, f.0), e.0)

  name_groups : (b : Bool) (xs : List Name) (ys : List Id) → Paired d F v hd xs ys → Groups d b ys → NameGroups F v m b xs
  name_groups b [] ys p g = tt
  name_groups b (x ∷ xs) [] p g = absurd p
  name_groups b (x ∷ xs) (y ∷ ys) p g =
      let same : inside_after (mode_at c x) b ≡ inside_after (mode_at d y) b = ap (λ (z : Mode). inside_after z b) (mode_same x y p.0) in (
        follows_name (inside_after (mode_at c x) b) x xs y ys p.0 p.1 p.2 (subst (λ (z : Bool). consistent.Follows d z y ys) (sym same) g.0),
        name_groups (inside_after (mode_at c x) b) xs ys p.2 (subst (λ (z : Bool). Groups d z ys) (sym same) g.1),
      )

  -- ---- each executed event stands for a taken one

  abbrev Has : Id → Type 0
  Has y = (x : Name) × IsTaken F v m x × P x y

  find_in : (i : ℕ) → i < F.many → (y : Id) → In y (runs i) → Has y
  find_in i l y z =
      let r = name_in d F v hd (turns F v m i) (runs i) y (both_of d t objects F family forms h F.many v runs j i l).0 z in
      let k = keep_in (taken F v m) (names F i) r.0 r.1 in
      let form : r.0.form ≡ i = (in_named i 0 (F.events i) r.0 k.0).0 in
      (r.0, record { form = omega (arith, form, l); listed = subst (λ (f : ℕ). In r.0 (names F f)) (sym form) k.0; taken_there = k.1 }, r.2)

  child_found : (i k : ℕ) → suc i < F.many → (b y : Id) → head_at d t objects F family forms h v runs (F.creator i) ≡ Some b → (f u : ℕ) → change_at d b ≡ starts (suc k) f u → In y (d.runs (suc k)) → From d t objects F family forms h v runs (suc i) → Has y
  child_found i k l b y q f u s z (inl r) = absurd (none_some (sym r.0 ∙ q))
    where
      none_some : None ≡ Some b → ⊥
      none_some e = cc e
  child_found i k l b y q f u s z (inr r) =
      let w = born_here i l b q in
      let n : number F v (suc i) ≡ suc k = ap number_told w.told.tells ∙ number_is w.told.number w.told.function w.told.value (sym w.starts_is ∙ s) in
      find_in (suc i) l y (subst (λ (l : List Id). In y l) (sym (r.2 ∙ ap d.runs n)) z)
    where
      number_is : (a g e : ℕ) → starts a g e ≡ starts (suc k) f u → a ≡ suc k
      number_is a g e p = cc p

  found_child : (k : ℕ) (y : Id) → In y (d.runs (suc k)) → (r : IsChild d (main_member t objects) (suc k)) → Has r.creator → Has y
  found_child k y z r (x, taken_x, p) =
      let move = moves_by (outcome_at d r.creator) (suc k) r.function r.value r.creates in
      let create = creating (d.thread r.creator) (d.own r.creator) (d.view r.creator) (d.next r.creator) move.0 (suc k) r.function r.value move.1 in
      let w = forms.whole v x taken_x.form taken_x.listed (create_told (x.event.told v) r.function r.value create.line create.function p.turn (sym p.next ∙ create.create)) in
      child_found w.0 k w.1 r.creator y (ap (λ (u : Name). hd u.form u.place) w.2 ∙ p.at) r.function r.value r.creates z (j.from (suc w.0) w.1)

  found : (n k : ℕ) (y : Id) → In y (d.runs k) → d.clock y < n → Has y
  found zero k y z l = absurd (omega arith)
  found (suc n) zero y z l = find_in 0 forms.some y (subst (λ (ys : List Id). In y ys) (sym (j.from 0 forms.some)) z)
  found (suc n) (suc k) y z l = by (h.children k) (λ x i s. found n (d.thread x) x i s)
    where
      by : (d.runs (suc k) ≡ []) ⊎ IsChild d (main_member t objects) (suc k) → ((x : Id) → Executed d x → d.clock x < n → Has x) → Has y
      by (inl e) f = absurd (subst (λ (ys : List Id). In y ys) e z)
      by (inr r) f = found_child k y z r (f r.creator r.executed (omega (arith, each_in (λ x. d.clock r.creator < d.clock x) (d.runs (suc k)) y r.after z, l)))

  all : (y : Id) → Executed d y → Has y
  all y i = found (suc (d.clock y)) (d.thread y) y i (omega arith)

  -- ---- sources

  or_later : (x z : Name) (a b : Id) → IsTaken F v m x → IsTaken F v m z → P x a → P z b → (b ≡ a) ⊎ Later d b a → (z ≡ x) ⊎ Later c z x
  or_later x z a b k l p q (inl e) = inl (one_name z x a l k (subst (λ (u : Id). P z u) e q) p)
  or_later x z a b k l p q (inr r) = inr (later_back x z a b k l p q r)

  source_by : (x : Name) (q : Place) (k : IsTaken F v m x) (o : Option Id) → IsSource d objects (partner x k).0 q o → (s : Option Name) × SourceAt F v m objects x q s
  source_by x q k None s =
      let p = partner x k in (
        None,
        (
          s.0 ∙ sym (value_same x p.0 q p.2),
          λ z l w. let r = partner z l in or_later x z p.0 r.0 k l p.2 r.2 (s.1 r.0 (there_in z l) (writes_to z r.0 q r.2 w)),
        ),
      )
  source_by x q k (Some b) s =
      let p = partner x k in
      let u = all b s.0 in (
        Some u.0,
        (
          u.1,
          later_back u.0 x b p.0 u.1 k u.2 p.2 s.1,
          written_same u.0 b q u.2 ∙ s.2 ∙ ap Some (sym (value_same x p.0 q p.2)),
          λ z l w r. let e = partner z l in or_later x z p.0 e.0 k l p.2 e.2 (s.3 e.0 (there_in z l) (writes_to z e.0 q e.2 w) (later_to u.0 z b e.0 u.1 l u.2 e.2 r)),
        ),
      )

  pub meets : Meets F v m objects
  meets = record {
    orders = orders;
    groups = λ i l. name_groups false (turns F v m i) (runs i) (both_of d t objects F family forms h F.many v runs j i l).0 (groups_at i l);
    sources = λ x q k r. let p = partner x k in let s = h.sources p.0 q (there_in x k) (reads_to x p.0 q p.2 r) in source_by x q k s.0 s.1;
    coherent = λ x z q k l w u a e. let p = partner x k in let r = partner z l in
        h.coherent p.0 r.0 q (there_in x k) (there_in z l) (writes_to x p.0 q p.2 w) (writes_to z r.0 q r.2 u) (λ f. a (number_same x z p.0 r.0 p.2 r.2 f)) (sym (clock_same x p.0 p.2) ∙ e ∙ clock_same z r.0 r.2);
    exits = λ x k e. let p = partner x k in last_to x p.0 p.2 (h.exits p.0 (there_in x k) (sym (mode_same x p.0 p.2) ∙ e));
  }

  is_same : (x : Name) (y : Id) → P x y → IsSame d F v m x y
  is_same x y p = record { thread = sym p.thread; clock = clock_same x y p; next = sym p.next; outcome = outcome_same x y p }

  pub tells : TellsRun d F v m
  tells = record {
    only = λ x k. let p = partner x k in (p.0, there_in x k, is_same x p.0 p.2);
    all = λ y i. let r = all y i in (r.0, r.1, is_same r.0 y r.2);
  }

pub runs_give_valuations : (Id : Type 0) → RunsGiveValuations Id
runs_give_valuations Id = λ t objects F d family forms h fit.
    let r = joined d t objects F family forms h fit F.many (omega arith) in
    record {
      valuation = r.valuation;
      marks = m d t objects F family forms h r.valuation r.runs r.joined;
      meets = meets d t objects F family forms h r.valuation r.runs r.joined;
      tells = tells d t objects F family forms h r.valuation r.runs r.joined;
    }
