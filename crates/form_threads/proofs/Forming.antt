-- A form over a graph, as events over valuations, is a form of its thread.
use Rattle.std.proofs.Common.{◌≡◌, ◌<◌, ◌≤◌, ◌+◌, ◌++◌, ℕ, zero, suc, Bool, true, false, List, [], ◌∷◌, inl, inr, refl, sym, ap, subst, ◌∙◌, arith, true≢false}
use Rattle.actions.specs.Behaviour.{Behaviour, Thread, after, word_64}
use Rattle.actions.specs.LocalRun.{Exchange, IsLocalRun}
use Rattle.actions.specs.declared.action.Next.{Next}
use Rattle.actions.specs.declared.action.Next.TheVariants.{Act, Ended, Blocked, Broken}
use Rattle.word_dag.specs.declared.nodes.Id.{Id}
use Rattle.word_dag.specs.declared.nodes.Node.{Node}
use Rattle.word_dag.specs.Meaning.{values, holds, at}
use Rattle.event_forms.specs.declared.forms.Event.{Event as FormEvent}
use Rattle.event_forms.specs.declared.forms.EventKind.{EventKind}
use Rattle.event_forms.specs.declared.forms.EventKind.TheVariants.{Draw, Fill, Read, Write, Look, Alloc, Die, Free, Exit, Check, Assume}
use Rattle.event_forms.specs.Arrivals.{Seen, read}
use Rattle.event_forms.specs.Runs as runs
use Rattle.event_forms.specs.Forms.{run_read, IsForm, Begins}
use Rattle.weave.specs.Candidate.{In}
use Rattle.thread_forms.specs.Forms.{Valuation, Told, passes, asks, stops, Event, Name, Forms, named, names, is_create, begins, goes_by, Goes, IsStopped, IsStop, heard_if, heard, SameBelow, SameEvent, AreForms}
use Rattle.thread_forms.specs.Forms.{Begins as Starts}
use Rattle.form_threads.specs.Events.{stops_where, kind_told, word_guard, word_told, event_by, event_at, word_events, kind_events, events_of, events_at, low_at, forms_of, FormIsOfThreads}
use Rattle.form_threads.proofs.Same.{values_same}
use Rattle.form_threads.proofs.Hearing.{told_seen, all_seen, events_heard}

-- ---- what events tell: an action, nothing, or an end that is no action; never a Create

abbrev pub IsPlain : Told → Type 0
IsPlain passes = Unit {0}
IsPlain (asks (Act action line f) a) = is_create (asks (Act action line f) a) ≡ false
IsPlain (asks next a) = ⊥
IsPlain (stops next) = IsStop next

-- the same under valuations with which all nodes have the same values
abbrev pub IsKnown : List Node → Event → Type 0
IsKnown d e = (v w : Valuation) → values v d ≡ values w d → SameEvent v w e

pub record IsOwn (d : List Node) (e : Event) : Type 0 where
  pub plain : (v : Valuation) → IsPlain (e.told v)
  pub known : IsKnown d e

abbrev pub AreOwn : List Node → List Event → Type 0
AreOwn d [] = Unit {0}
AreOwn d (e ∷ es) = IsOwn d e × AreOwn d es

module _ (d : List Node) where
  own_by : (guard : List ℕ → Bool) (tells : List ℕ → Told) → ((vs : List ℕ) → IsPlain (tells vs)) → IsOwn d (event_by d guard tells)
  own_by guard tells h = record { plain = λ v. h (values v d); known = λ v w e. (ap guard e, ap tells e) }

  own_at : (guard : Id) (tells : List ℕ → Told) → ((vs : List ℕ) → IsPlain (tells vs)) → IsOwn d (event_at d guard tells)
  own_at guard tells h = own_by (λ vs. holds (at vs guard)) tells h

  stop_plain : (b : Bool) (next : Next) → IsStop next → IsPlain (stops_where b next)
  stop_plain true next h = h
  stop_plain false next h = tt

  words_own : (guard : Id) (line f : ℕ) (count : Id) (most before offset : ℕ) (ws : List Id) (more : List Event) → AreOwn d more → AreOwn d (word_events d guard line f count most before offset ws ++ more)
  words_own guard line f count most before offset [] more h = h
  words_own guard line f count most before offset (w ∷ ws) more h =
      (own_by (word_guard guard count most before) (word_told line f count most offset w) (λ vs. refl), words_own guard line f count most (suc before) (offset + 8) ws more h)

  kind_own : (guard : Id) (line f : ℕ) (k : EventKind) (more : List Event) → AreOwn d more → AreOwn d (kind_events d guard line f k ++ more)
  kind_own guard line f (Draw bits answer) more h = (own_at guard (kind_told line f (Draw bits answer)) (λ vs. refl), h)
  kind_own guard line f (Fill count most words) more h = words_own guard line f count most 0 0 words more h
  kind_own guard line f (Read pointer count answer) more h = (own_at guard (kind_told line f (Read pointer count answer)) (λ vs. refl), h)
  kind_own guard line f (Write pointer bytes first) more h = (own_at guard (kind_told line f (Write pointer bytes first)) (λ vs. refl), h)
  kind_own guard line f (Look pointer subscript answer) more h = (own_at guard (kind_told line f (Look pointer subscript answer)) (λ vs. refl), h)
  kind_own guard line f (Alloc size bytes readonly heap answer) more h = (own_at guard (kind_told line f (Alloc size bytes readonly heap answer)) (λ vs. refl), h)
  kind_own guard line f (Die pointer) more h = (own_at guard (kind_told line f (Die pointer)) (λ vs. refl), h)
  kind_own guard line f (Free pointer) more h = (own_at guard (kind_told line f (Free pointer)) (λ vs. refl), h)
  kind_own guard line f Exit more h = (own_at guard (kind_told line f Exit) (λ vs. refl), (own_at guard (λ vs. stops (Ended (word_64 0))) (λ vs. tt), h))
  kind_own guard line f (Check class failing) more h = (own_at guard (kind_told line f (Check class failing)) (λ vs. stop_plain (holds (at vs failing)) (Broken class line f) tt), h)
  kind_own guard line f (Assume failing) more h = (own_at guard (kind_told line f (Assume failing)) (λ vs. stop_plain (holds (at vs failing)) Blocked tt), h)

  events_own : (es : List FormEvent) → AreOwn d (events_of d es)
  events_own [] = tt
  events_own (e ∷ es) = kind_own e.guard e.line e.function e.kind (events_of d es) (events_own es)

  events_at_own : (es : List FormEvent) (i : ℕ) → AreOwn d (events_at d es i)
  events_at_own es zero = events_own es
  events_at_own es (suc i) = tt

  named_own : (i n : ℕ) (es : List Event) (x : Name) → AreOwn d es → In x (named i n es) → IsOwn d x.event
  named_own i n [] x h l = absurd l
  named_own i n (e ∷ es) x h (inl q) = subst (λ (y : Name). IsOwn d y.event) (sym q) h.0
  named_own i n (e ∷ es) x h (inr l) = named_own i (suc n) es x h.1 l

-- ---- what they tell is what the thread does

abbrev finish : List Seen → runs.Run
finish told = read told (runs.stops (Ended (word_64 0)))

-- what they begin to tell the thread does
abbrev Does : Behaviour → List Seen → Type 0
Does b told = (run : List Exchange) (next : Next) → Begins run next (finish told) → IsLocalRun b run next

module _ (v : Valuation) (d : List Node) where
  abbrev told_of : List Event → List Seen
  told_of es = all_seen (heard v es)

  goes_at : (g : Bool) (t : Told) (es : List Event) (b : Behaviour) → IsPlain t → Does b (told_seen (heard_if g t) (told_of es)) → ((c : Behaviour) → Does c (told_of es) → Goes v c es) → goes_by g t b (λ c. Goes v c es)
  goes_at false t es b p h later = later b h
  goes_at true passes es b p h later = later b h
  goes_at true (asks (Act action line f) a) es b p h later = (
    h [] (Act action line f) refl,
    later (after b a) (λ run next begins. (h (record { action = action; line = line; function = f; answer = a } ∷ run) next (refl, refl, refl, refl, begins)).2),
  )
  goes_at true (asks (Ended w) a) es b p h later = absurd p
  goes_at true (asks Blocked a) es b p h later = absurd p
  goes_at true (asks (Broken class line f) a) es b p h later = absurd p
  goes_at true (stops next) es b p h later = h [] next refl

  goes : (es : List Event) (b : Behaviour) → AreOwn d es → Does b (told_of es) → Goes v b es
  goes [] b own h = subst IsStopped (sym (h [] (Ended (word_64 0)) refl)) tt
  goes (e ∷ es) b own h = goes_at (e.guard v) (e.told v) es b (own.0.plain v) h (λ c k. goes es c own.1 k)

  starts_at : (g : Bool) (t : Told) (es : List Event) (run : List Exchange) (next : Next) → IsPlain t → Begins run next (finish (told_seen (heard_if g t) (told_of es)))
      → ((xs : List Exchange) → Begins xs next (finish (told_of es)) → Starts xs next (heard v es)) → Starts run next (heard_if g t ∷ heard v es)
  starts_at false t es run next p h later = later run h
  starts_at true passes es run next p h later = later run h
  starts_at true (asks (Act action line f) a) es [] next p h later = h
  starts_at true (asks (Act action line f) a) es (x ∷ run) next p h later = (same_act, sym h.3, later run h.4)
    where
      same_act : Act action line f ≡ Act x.action x.line x.function
      same_act = λ i. Act (sym h.0 i) (sym h.1 i) (sym h.2 i)
  starts_at true (asks (Ended w) a) es run next p h later = absurd p
  starts_at true (asks Blocked a) es run next p h later = absurd p
  starts_at true (asks (Broken class line f) a) es run next p h later = absurd p
  starts_at true (stops n) es [] next p h later = (h, p)
  starts_at true (stops n) es (x ∷ run) next p h later = absurd h

  starts : (es : List Event) (run : List Exchange) (next : Next) → AreOwn d es → Begins run next (finish (told_of es)) → Starts run next (heard v es)
  starts [] [] next own h = subst IsStopped h tt
  starts [] (x ∷ run) next own h = absurd h
  starts (e ∷ es) run next own h = starts_at (e.guard v) (e.told v) es run next (own.0.plain v) h (λ xs k. starts es xs next own.1 k)

-- ---- the form

module _ (t : Thread) (d : List Node) (es : List FormEvent) (form : IsForm t.behaves d es) where
  abbrev F : Forms
  F = forms_of d es

  told_same : (v : Valuation) (run : List Exchange) (next : Next) → Begins run next (finish (all_seen (heard v (events_of d es)))) → Begins run next (run_read v d es)
  told_same v run next h = subst (λ (told : List Seen). Begins run next (finish told)) (events_heard v d es) h

  same_told : (v : Valuation) (run : List Exchange) (next : Next) → Begins run next (run_read v d es) → Begins run next (finish (all_seen (heard v (events_of d es))))
  same_told v run next h = subst (λ (told : List Seen). Begins run next (finish told)) (sym (events_heard v d es)) h

  gives : (v : Valuation) (i : ℕ) → i < 1 → Goes v (begins F t v i) (events_at d es i)
  gives v zero l = goes v d (events_of d es) t.behaves (events_own d es) (λ run next h. form.gives v run next (told_same v run next h))
  gives v (suc i) l = absurd (omega (arith, l))

  none_below : (v w : Valuation) → SameBelow 0 v w
  none_below v w x l = absurd (omega (arith, l))

  has : (v : Valuation) (i : ℕ) → i < 1 → (run : List Exchange) (next : Next) → IsLocalRun (begins F t v i) run next → (w : Valuation) × SameBelow (low_at d i) v w × Starts run next (heard w (events_at d es i))
  has v zero l run next local =
      let told = form.has run next local in
      (told.0, none_below v told.0, starts told.0 d (events_of d es) run next (events_own d es) (same_told told.0 run next told.1))
  has v (suc i) l run next local = absurd (omega (arith, l))

  alone : (i : ℕ) → i < 1 → (v w : Valuation) → SameBelow (low_at d (suc i)) v w → (x : Name) → In x (names F i) → SameEvent v w x.event
  alone i l v w same x h = (named_own d i 0 (events_at d es i) x (events_at_own d es i) h).known v w (values_same v w d same)

  rises : (i : ℕ) → low_at d i ≤ low_at d (suc i)
  rises zero = omega arith
  rises (suc i) = omega arith

  not_create : (told : Told) → IsPlain told → is_create told ≡ false
  not_create passes p = refl
  not_create (asks (Act action line f) a) p = p
  not_create (asks (Ended w) a) p = absurd p
  not_create (asks Blocked a) p = absurd p
  not_create (asks (Broken class line f) a) p = absurd p
  not_create (stops next) p = refl

  is_of_threads : AreForms t F
  is_of_threads = record {
    some = omega arith;
    gives = gives;
    has = has;
    alone = alone;
    rises = rises;
    earlier = λ i. omega arith;
    placed = λ i l. absurd (omega (arith, l));
    creating = λ i l v. absurd (omega (arith, l));
    once = λ i j l m e. absurd (omega (arith, l));
    whole = λ v x l h c. absurd (true≢false (sym c ∙ not_create (x.event.told v) ((named_own d x.form 0 (events_at d es x.form) x (events_at_own d es x.form) h).plain v)));
  }

pub form_is_of_threads : FormIsOfThreads
form_is_of_threads t d es form = is_of_threads t d es form
