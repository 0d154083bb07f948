-- One valuation of all forms for the runs of all threads, form after form, a creator before the threads that it creates.
use Rattle.std.proofs.Common.{◌≡◌, ◌<◌, ◌≤◌, ◌+◌, ℕ, zero, suc, Bool, true, ◌&&◌, cond, List, [], ◌∷◌, Option, Some, None, ◌⊎◌, inl, inr, refl, sym, ap, subst, ◌∙◌, arith, nat_eq}
use Rattle.std.proofs.lemmas.Bool.{eq-eqb, ne_eqb, cases_eq}
use Rattle.actions.specs.Behaviour.{Behaviour, Thread}
use Rattle.actions.specs.LocalRun.{IsLocalRun}
use Rattle.actions.specs.Memory.{starts}
use Rattle.actions.specs.Objects.{Objects}
use Rattle.actions.specs.Row.{Row, outcome_in}
use Rattle.interleave.specs.World.{Member, child}
use Rattle.weave.specs.Step.{row_by, change_by}
use Rattle.weave.specs.Candidate.{Candidate, In, Executed, change_at}
use Rattle.weave.specs.Consistent.{main_member, IsRun, IsChild, IsConsistent}
use Rattle.weave.specs.Family.{IsFamily}
use Rattle.weave.proofs.Numbering.{number_of, one_creator}
use Rattle.thread_forms.specs.Forms.{Valuation, Told, Event, Name, Forms, named, names, number, number_told, begins, begun, heard_if, heard, SameBelow, SameEvent, AreForms}
use Rattle.thread_forms.specs.Valued.{Marks, taken, keep, is_turn, own_told, next_told}
use Rattle.thread_forms.specs.Meets.{first_counts}
use Rattle.thread_forms.specs.Runs.{AreFit}
use Rattle.thread_forms.proofs.Forming.{kept_in, IsCreator, creator_of}
use Rattle.thread_forms.proofs.Walking.{Fit, exchanges, last_next, local, Follows, follow, follows_none, walk}
use Rattle.thread_forms.proofs.Pairing.{is_there, marks_of, IsPartner, Both, pairs, partner_in}

pub positive : (n : ℕ) → 0 < n → (k : ℕ) × (n ≡ suc k)
positive zero l = absurd (omega arith)
positive (suc k) l = (k, refl)

function_same : (k f u g w : ℕ) → starts k f u ≡ starts k g w → f ≡ g
function_same k f u g w e = cc e

value_same : (k f u g w : ℕ) → starts k f u ≡ starts k g w → u ≡ w
value_same k f u g w e = cc e

behaves_same : (b : ℕ → ℕ → Behaviour) (k f u g w : ℕ) → starts k f u ≡ starts k g w → b f u ≡ b g w
behaves_same b k f u g w e = λ z. b (function_same k f u g w e z) (value_same k f u g w e z)

same_heards : (v w : Valuation) (i n : ℕ) (es : List Event) → ((x : Name) → In x (named i n es) → SameEvent v w x.event) → heard v es ≡ heard w es
same_heards v w i n [] h = refl
same_heards v w i n (e ∷ es) h =
    let s : SameEvent v w e = h (record { form = i; place = n; event = e }) (inl refl) in
    let r : heard v es ≡ heard w es = same_heards v w i (suc n) es (λ x j. h x (inr j)) in
    λ k. heard_if (s.0 k) (s.1 k) ∷ r k

module _ {Id : Type 0} (d : Candidate Id) (t : Thread) (objects : Objects) (F : Forms) (family : IsFamily t) (forms : AreForms t F) (h : IsConsistent d t objects) where
  abbrev pub hd_of : Valuation → (ℕ → List Id) → ℕ → ℕ → Option Id
  hd_of v runs i k = walk d (heard v (F.events i)) (runs i) k

  abbrev pub head_at : Valuation → (ℕ → List Id) → Name → Option Id
  head_at v runs x = hd_of v runs x.form x.place

  -- a form whose thread isn't created has no events of the run
  abbrev pub From : Valuation → (ℕ → List Id) → ℕ → Type 0
  From v runs zero = runs 0 ≡ d.runs 0
  From v runs (suc j) =
      ((head_at v runs (F.creator j) ≡ None) × (runs (suc j) ≡ [])) ⊎ ((b : Id) × (head_at v runs (F.creator j) ≡ Some b) × (runs (suc j) ≡ d.runs (number F v (suc j))))

  abbrev pub Starts : ℕ → List Id → Type 0
  Starts i xs = (th : Thread) × IsRun d (record { thread = th; counts = first_counts objects i }) xs

  pub record Joined (n : ℕ) (v : Valuation) (runs : ℕ → List Id) : Type 0 where
    pub follows : (i : ℕ) → i < n → Follows d (heard v (F.events i)) (runs i)
    pub started : (i : ℕ) → i < n → Starts i (runs i)
    pub from : (i : ℕ) → i < n → From v runs i

  pub record IsJoined (n : ℕ) : Type 0 where
    pub valuation : Valuation
    pub runs : ℕ → List Id
    pub joined : Joined n valuation runs

  -- ---- what the joined forms say

  module _ (n : ℕ) (v : Valuation) (runs : ℕ → List Id) (j : Joined n v runs) where
    abbrev pub hd : ℕ → ℕ → Option Id
    hd = hd_of v runs

    abbrev pub m : Marks
    m = marks_of d hd

    owner_by : (i : ℕ) (y : Id) → From v runs i → In y (runs i) → In y (d.runs (number F v i))
    owner_by zero y f k = subst (λ (l : List Id). In y l) f k
    owner_by (suc i) y (inl f) k = absurd (subst (λ (l : List Id). In y l) f.1 k)
    owner_by (suc i) y (inr f) k = subst (λ (l : List Id). In y l) f.2 k

    pub owner : (i : ℕ) → i < n → (y : Id) → In y (runs i) → In y (d.runs (number F v i))
    owner i l y k = owner_by i y (j.from i l) k

    pub thread_of : (i : ℕ) → i < n → (y : Id) → In y (runs i) → d.thread y ≡ number F v i
    thread_of i l y k = h.owned (number F v i) y (owner i l y k)

    pub executed_in : (i : ℕ) → i < n → (y : Id) → In y (runs i) → Executed d y
    executed_in i l y k = subst (λ (z : ℕ). In y (d.runs z)) (sym (thread_of i l y k)) (owner i l y k)

    pub both_of : (i : ℕ) → i < n → Both d F v hd (runs i) (number F v i) (first_counts objects i) (names F i)
    both_of i l =
        let s = j.started i l in
        pairs d F v hd i (F.events i) 0 (runs i) (record { thread = s.0; counts = first_counts objects i }) s.1 (λ k. ap (hd i) (from_zero k)) (j.follows i l) (thread_of i l)
      where
        from_zero : (k : ℕ) → 0 + k ≡ k
        from_zero k = omega arith

    pub taken_partner : (x : Name) → x.form < n → In x (names F x.form) → taken F v m x ≡ true → (y : Id) × In y (runs x.form) × IsPartner d F v hd x y
    taken_partner x l i e = partner_in d F v hd (keep (taken F v m) (names F x.form)) (runs x.form) x (both_of x.form l).0 (kept_in (taken F v m) (names F x.form) x e i)

    -- the event that creates a form's thread
    pub record IsBorn (i : ℕ) (b : Id) : Type 0 where
      pub told : IsCreator ((F.creator i).event.told v)
      pub listed : In b (runs (F.creator i).form)
      pub executed : Executed d b
      pub starts_is : change_at d b ≡ starts told.number told.function told.value

    pub born : (i : ℕ) → suc i < F.many → (F.creator i).form < n → (b : Id) → head_at v runs (F.creator i) ≡ Some b → IsBorn i b
    born i l below b q =
        let c : IsCreator ((F.creator i).event.told v) = creator_of ((F.creator i).event.told v) (forms.creating i l v) in
        let yes : taken F v m (F.creator i) ≡ true = ap (λ (o : Option Id). is_there d o && is_turn ((F.creator i).event.told v)) q ∙ ap is_turn c.tells in
        let p = taken_partner (F.creator i) below (forms.placed i l) yes in
        let same : p.0 ≡ b = some_is p.0 (sym p.2.at ∙ q) in
        let listed : In b (runs (F.creator i).form) = subst (λ (z : Id). In z (runs (F.creator i).form)) same p.1 in
        record {
          told = c;
          listed = listed;
          executed = executed_in (F.creator i).form below b listed;
          starts_is = subst (λ (z : Id). change_at d z ≡ starts c.number c.function c.value) same
              (ap (λ (r : Row). change_by (outcome_in (d.view p.0) r)) p.2.rows
              ∙ ap (λ (z : Told). change_by (outcome_in (d.view p.0) (row_by (number F v (F.creator i).form) (own_told z) (next_told z)))) c.tells);
        }
      where
        some_is : (y : Id) → Some y ≡ Some b → y ≡ b
        some_is y e = cc e

  -- ---- one form more

  low_up : (i k : ℕ) → i ≤ k → F.low i ≤ F.low k
  low_up i zero l = subst (λ (z : ℕ). F.low i ≤ F.low z) (zero_is i l) (omega arith)
    where
      zero_is : (z : ℕ) → z ≤ 0 → z ≡ 0
      zero_is z l = omega arith
  low_up i (suc k) l = by (cases_eq i (suc k)) (λ r. low_up i k r)
    where
      by : (i ≡ suc k) ⊎ (i ≡ suc k → ⊥) → (i ≤ k → F.low i ≤ F.low k) → F.low i ≤ F.low (suc k)
      by (inl e) up = subst (λ (z : ℕ). F.low i ≤ F.low z) e (omega arith)
      by (inr a) up = omega (arith, up (omega arith), forms.rises k)

  module _ (n : ℕ) (l : n < F.many) (v : Valuation) (runs : ℕ → List Id) (j : Joined n v runs) (w : Valuation) (s : SameBelow (F.low n) v w) (xs : List Id) where
    abbrev with_run : ℕ → List Id
    with_run k = cond (nat_eq k n) xs (runs k)

    at_new : with_run n ≡ xs
    at_new = ap (λ (b : Bool). cond b xs (runs n)) (eq-eqb n n refl)

    at_old : (i : ℕ) → i < n → with_run i ≡ runs i
    at_old i k = ap (λ (b : Bool). cond b xs (runs i)) (ne_eqb i n (apart i k))
      where
        apart : (i : ℕ) → i < n → i ≡ n → ⊥
        apart i k e = omega (arith, e, k)

    same_event : (i : ℕ) → i < n → (x : Name) → In x (names F i) → SameEvent v w x.event
    same_event i k x z = forms.alone i (omega arith) v w (λ y u. s y (omega (arith, u, low_up (suc i) n (omega arith)))) x z

    same_heard : (i : ℕ) → i < n → heard v (F.events i) ≡ heard w (F.events i)
    same_heard i k = same_heards v w i 0 (F.events i) (same_event i k)

    same_number : (i : ℕ) → suc i ≤ n → number F v (suc i) ≡ number F w (suc i)
    same_number i k = ap number_told (same_event (F.creator i).form (omega (arith, forms.earlier i)) (F.creator i) (forms.placed i (omega arith))).1

    same_head : (x : Name) → x.form < n → head_at w with_run x ≡ head_at v runs x
    same_head x k = ap (λ (ys : List Id). walk d (heard w (F.events x.form)) ys x.place) (at_old x.form k) ∙ ap (λ (hs : List (Option Told)). walk d hs (runs x.form) x.place) (sym (same_heard x.form k))

    from_old : (i : ℕ) → i < n → From v runs i → From w with_run i
    from_old zero k f = at_old zero k ∙ f
    from_old (suc i) k (inl f) = inl (same_head (F.creator i) (omega (arith, forms.earlier i)) ∙ f.0, at_old (suc i) k ∙ f.1)
    from_old (suc i) k (inr f) = inr (f.0, same_head (F.creator i) (omega (arith, forms.earlier i)) ∙ f.1, at_old (suc i) k ∙ f.2 ∙ ap d.runs (same_number i (omega arith)))

    module _ (follows : Follows d (heard w (F.events n)) xs) (starts_here : Starts n xs) (from : From w with_run n) where
      follows_by : (i : ℕ) → i < suc n → (i ≡ n) ⊎ (i ≡ n → ⊥) → Follows d (heard w (F.events i)) (with_run i)
      follows_by i k (inl e) = subst (λ (z : ℕ). Follows d (heard w (F.events z)) (with_run z)) (sym e) (subst (λ (ys : List Id). Follows d (heard w (F.events n)) ys) (sym at_new) follows)
      follows_by i k (inr a) =
          subst (λ (ys : List Id). Follows d (heard w (F.events i)) ys) (sym (at_old i (omega arith))) (subst (λ (hs : List (Option Told)). Follows d hs (runs i)) (same_heard i (omega arith)) (j.follows i (omega arith)))

      started_by : (i : ℕ) → i < suc n → (i ≡ n) ⊎ (i ≡ n → ⊥) → Starts i (with_run i)
      started_by i k (inl e) = subst (λ (z : ℕ). Starts z (with_run z)) (sym e) (subst (Starts n) (sym at_new) starts_here)
      started_by i k (inr a) = subst (Starts i) (sym (at_old i (omega arith))) (j.started i (omega arith))

      from_by : (i : ℕ) → i < suc n → (i ≡ n) ⊎ (i ≡ n → ⊥) → From w with_run i
      from_by i k (inl e) = subst (λ (z : ℕ). From w with_run z) (sym e) from
      from_by i k (inr a) = from_old i (omega arith) (j.from i (omega arith))

      extended : IsJoined (suc n)
      extended = record {
        valuation = w;
        runs = with_run;
        joined = record {
          follows = λ i k. follows_by i k (cases_eq i n);
          started = λ i k. started_by i k (cases_eq i n);
          from = λ i k. from_by i k (cases_eq i n);
        };
      }

  module _ (fit : AreFit d) where
    fit_in : (k : ℕ) (x : Id) → In x (d.runs k) → Fit d x
    fit_in k x i = fit x (subst (λ (z : ℕ). In x (d.runs z)) (sym (h.owned k x i)) i)

    joined_none : Joined 0 (λ x. 0) (λ i. [])
    joined_none = record { follows = λ i l. absurd (none i l); started = λ i l. absurd (none i l); from = λ i l. absurd (none i l) }
      where
        none : (i : ℕ) → i < 0 → ⊥
        none i l = omega arith

    main_joined : IsJoined 1
    main_joined =
        let u : Member = main_member t objects in
        let r = forms.has (λ x. 0) 0 forms.some (exchanges d (d.runs 0)) (last_next d (d.runs 0) t.behaves) (local d (d.runs 0) u h.main (fit_in 0)) in
        extended 0 forms.some (λ x. 0) (λ i. []) joined_none r.0 r.1 (d.runs 0) (follow d (heard r.0 (F.events 0)) (d.runs 0) u h.main r.2) (t, h.main) (at_new 0 forms.some (λ x. 0) (λ i. []) joined_none r.0 r.1 (d.runs 0))

    module _ (i : ℕ) (l : suc i < F.many) (v : Valuation) (runs : ℕ → List Id) (j : Joined (suc i) v runs) where
      below : (F.creator i).form < suc i
      below = omega (arith, forms.earlier i)

      absent : head_at v runs (F.creator i) ≡ None → IsJoined (suc (suc i))
      absent q =
          extended (suc i) l v runs j v (λ x k. refl) [] (follows_none d (heard v (F.events (suc i)))) (t, tt)
          (inl (same_head (suc i) l v runs j v (λ x k. refl) [] (F.creator i) below ∙ q, at_new (suc i) l v runs j v (λ x k. refl) []))

      module _ (b : Id) (q : head_at v runs (F.creator i) ≡ Some b) where
        abbrev here : IsBorn (suc i) v runs j i b
        here = born (suc i) v runs j i l below b q

        number_is : number F v (suc i) ≡ here.told.number
        number_is = ap number_told here.told.tells

        quiet : d.runs (number F v (suc i)) ≡ [] → IsJoined (suc (suc i))
        quiet e =
            extended (suc i) l v runs j v (λ x k. refl) (d.runs (number F v (suc i))) (subst (λ (ys : List Id). Follows d (heard v (F.events (suc i))) ys) (sym e) (follows_none d (heard v (F.events (suc i)))))
            (t, subst (λ (ys : List Id). IsRun d (record { thread = t; counts = first_counts objects (suc i) }) ys) (sym e) tt)
            (inr (b, same_head (suc i) l v runs j v (λ x k. refl) (d.runs (number F v (suc i))) (F.creator i) below ∙ q, at_new (suc i) l v runs j v (λ x k. refl) (d.runs (number F v (suc i)))))

        going : (k : ℕ) → number F v (suc i) ≡ suc k → IsChild d (main_member t objects) (suc k) → IsJoined (suc (suc i))
        going k e c =
            let mine : change_at d b ≡ starts (suc k) here.told.function here.told.value = here.starts_is ∙ ap (λ (z : ℕ). starts z here.told.function here.told.value) (sym number_is ∙ e) in
            let one : c.creator ≡ b = one_creator d t objects family h c.creator b (suc k) c.executed here.executed (c.function, c.value, c.creates) (here.told.function, here.told.value, mine) in
            let same : starts (suc k) c.function c.value ≡ starts (suc k) here.told.function here.told.value = sym c.creates ∙ ap (change_at d) one ∙ mine in
            let begin : t.program.behaves c.function c.value ≡ begins F t v (suc i) =
            behaves_same t.program.behaves (suc k) c.function c.value here.told.function here.told.value same ∙ sym (ap (begun t) here.told.tells) in
            let xs : List Id = d.runs (suc k) in
            let u : Member = child (main_member t objects) c.function c.value in
            let r = forms.has v (suc i) l (exchanges d xs) (last_next d xs u.thread.behaves) (subst (λ (z : Behaviour). IsLocalRun z (exchanges d xs) (last_next d xs u.thread.behaves)) begin (local d xs u c.run (fit_in (suc k)))) in
            extended (suc i) l v runs j r.0 r.1 xs (follow d (heard r.0 (F.events (suc i))) xs u c.run r.2) (u.thread, c.run)
            (inr (b, same_head (suc i) l v runs j r.0 r.1 xs (F.creator i) below ∙ q, at_new (suc i) l v runs j r.0 r.1 xs ∙ ap d.runs (sym e ∙ same_number (suc i) l v runs j r.0 r.1 xs i (omega arith))))

        created : IsJoined (suc (suc i))
        created =
            let n = number_of d t objects family h b here.told.number here.executed (here.told.function, here.told.value, here.starts_is) in
            let p = positive (number F v (suc i)) (omega (arith, number_is, n.number, n.over)) in
            by p.0 p.1 (h.children p.0)
          where
            by : (k : ℕ) → number F v (suc i) ≡ suc k → (d.runs (suc k) ≡ []) ⊎ IsChild d (main_member t objects) (suc k) → IsJoined (suc (suc i))
            by k e (inl z) = quiet (ap d.runs e ∙ z)
            by k e (inr c) = going k e c

      next_by : (o : Option Id) → head_at v runs (F.creator i) ≡ o → IsJoined (suc (suc i))
      next_by None q = absent q
      next_by (Some b) q = created b q

    pub joined : (n : ℕ) → n ≤ F.many → IsJoined n
    joined zero l = record { valuation = λ x. 0; runs = λ i. []; joined = joined_none }
    joined (suc zero) l = main_joined
    joined (suc (suc i)) l =
        let p : IsJoined (suc i) = joined (suc i) (omega arith) in
        next_by i (omega arith) p.valuation p.runs p.joined (head_at p.valuation p.runs (F.creator i)) refl
