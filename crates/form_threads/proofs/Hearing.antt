-- What events over valuations tell is what the form's own events tell.
use Rattle.std.proofs.Common.{◌≡◌, ◌<◌, ◌≤◌, ◌+◌, ◌++◌, ℕ, zero, suc, Bool, true, false, List, [], ◌∷◌, map, Option, Some, None, refl, ap, ◌∙◌, arith, true≢false}
use Rattle.std.specs.Prelude.{◌&&◌, nat_lt, if◌then◌else◌}
use Rattle.std.proofs.lemmas.Bool.Decides.{nat_tests}
use Rattle.actions.specs.Behaviour.{word_64}
use Rattle.actions.specs.declared.action.Action.{Action}
use Rattle.actions.specs.declared.action.Action.TheVariants as actions
use Rattle.actions.specs.declared.action.Answer.{Answer}
use Rattle.actions.specs.declared.action.Answer.TheVariants as answers
use Rattle.actions.specs.declared.action.Next.{Next}
use Rattle.actions.specs.declared.action.Next.TheVariants.{Act, Ended, Blocked, Broken}
use Rattle.c_values.specs.Variables.{word_count}
use Rattle.word_dag.specs.declared.nodes.Id.{Id}
use Rattle.word_dag.specs.declared.nodes.Node.{Node}
use Rattle.word_dag.specs.Meaning.{values, value, holds}
use Rattle.event_forms.specs.declared.forms.Event.{Event as FormEvent}
use Rattle.event_forms.specs.declared.forms.EventKind.{EventKind}
use Rattle.event_forms.specs.declared.forms.EventKind.TheVariants.{Draw, Fill, Read, Write, Look, Alloc, Die, Free, Exit, Check, Assume}
use Rattle.event_forms.specs.Arrivals.{Seen, asked, stopped}
use Rattle.event_forms.specs.Forms.{draws_seen, kind_seen, event_seen, seen}
use Rattle.thread_forms.specs.Forms.{Valuation, Told, passes, asks, stops, Event, heard_if, heard}
use Rattle.form_threads.specs.Events.{stops_where, drawn_size, word_guard, word_told, word_events, kind_events, events_of}

-- ---- what is heard, in the words of a form

abbrev pub seen_next : Next → Answer → Seen
seen_next (Act action line f) a = asked action line f a
seen_next next a = stopped next

abbrev pub told_seen : Option Told → List Seen → List Seen
told_seen None rest = rest
told_seen (Some passes) rest = rest
told_seen (Some (asks next a)) rest = seen_next next a ∷ rest
told_seen (Some (stops next)) rest = stopped next ∷ rest

abbrev pub all_seen : List (Option Told) → List Seen
all_seen [] = []
all_seen (t ∷ ts) = told_seen t (all_seen ts)

-- ---- one event

one : (b : Bool) (action : Action) (line f : ℕ) (a : Answer) (rest : List Seen) → told_seen (heard_if b (asks (Act action line f) a)) rest ≡ (if b then asked action line f a ∷ [] else []) ++ rest
one true action line f a rest = refl
one false action line f a rest = refl

stop : (b c : Bool) (next : Next) (rest : List Seen) → told_seen (heard_if b (stops_where c next)) rest ≡ (if b then (if c then stopped next ∷ [] else []) else []) ++ rest
stop true true next rest = refl
stop true false next rest = refl
stop false c next rest = refl

exit : (b : Bool) (line f : ℕ) (rest : List Seen)
    → told_seen (heard_if b (asks (Act actions.Exit line f) answers.Done)) (told_seen (heard_if b (stops (Ended (word_64 0)))) rest)
    ≡ (if b then asked actions.Exit line f answers.Done ∷ stopped (Ended (word_64 0)) ∷ [] else []) ++ rest
exit true line f rest = refl
exit false line f rest = refl

-- ---- a draw of several words

less : (m n : ℕ) → m < n → nat_lt m n ≡ true
less m n h = grind (arith, nat_tests)

not_less : (m n : ℕ) → n ≤ m → nat_lt m n ≡ false
not_less m n h = grind (arith, nat_tests)

false_both : (a b : Bool) → b ≡ false → (a && b) ≡ false
false_both true b h = h
false_both false b h = refl

true_both : (a b : Bool) → a ≡ true → b ≡ true → (a && b) ≡ true
true_both true true h k = refl
true_both true false h k = k
true_both false b h k = h

false_first : (a b : Bool) → a ≡ false → (a && b) ≡ false
false_first true b h = absurd (true≢false h)
false_first false b h = refl

skipped : (b : Bool) (t : Told) (rest : List Seen) → b ≡ false → told_seen (heard_if b t) rest ≡ rest
skipped b t rest h = ap (λ (c : Bool). told_seen (heard_if c t) rest) h

kept : (b : Bool) (t : Told) (rest : List Seen) → b ≡ true → told_seen (heard_if b t) rest ≡ told_seen (Some t) rest
kept b t rest h = ap (λ (c : Bool). told_seen (heard_if c t) rest) h

module _ (v : Valuation) (d : List Node) (guard : Id) (line f : ℕ) (count : Id) (most : ℕ) (more : List Event) where
  abbrev size : ℕ
  size = drawn_size count most (values v d)

  abbrev later : List Seen
  later = all_seen (heard v more)

  -- none where the guard is false
  words_out : (ws : List Id) (before offset : ℕ) → holds (value v d guard) ≡ false → all_seen (heard v (word_events d guard line f count most before offset ws ++ more)) ≡ later
  words_out [] before offset h = refl
  words_out (w ∷ ws) before offset h =
      skipped (word_guard guard count most before (values v d)) (word_told line f count most offset w (values v d)) (all_seen (heard v (word_events d guard line f count most (suc before) (offset + 8) ws ++ more)))
      (false_first (holds (value v d guard)) (nat_lt before (word_count size)) h)
      ∙ words_out ws (suc before) (offset + 8) h

  -- and none behind the last
  words_past : (ws : List Id) (before offset : ℕ) → word_count size ≤ before → all_seen (heard v (word_events d guard line f count most before offset ws ++ more)) ≡ later
  words_past [] before offset h = refl
  words_past (w ∷ ws) before offset h =
      skipped (word_guard guard count most before (values v d)) (word_told line f count most offset w (values v d)) (all_seen (heard v (word_events d guard line f count most (suc before) (offset + 8) ws ++ more)))
      (false_both (holds (value v d guard)) (nat_lt before (word_count size)) (not_less before (word_count size) h))
      ∙ words_past ws (suc before) (offset + 8) (omega (arith, h))

  words_in : (ws : List Id) (k before offset : ℕ) → holds (value v d guard) ≡ true → word_count size ≡ before + k
      → all_seen (heard v (word_events d guard line f count most before offset ws ++ more)) ≡ draws_seen line f k size offset (map (value v d) ws) ++ later
  words_in [] zero before offset h e = refl
  words_in [] (suc k) before offset h e = refl
  words_in (w ∷ ws) zero before offset h e = words_past (w ∷ ws) before offset (omega (arith, e))
  words_in (w ∷ ws) (suc k) before offset h e =
      kept (word_guard guard count most before (values v d)) (word_told line f count most offset w (values v d)) (all_seen (heard v (word_events d guard line f count most (suc before) (offset + 8) ws ++ more)))
      (true_both (holds (value v d guard)) (nat_lt before (word_count size)) h (less before (word_count size) (omega (arith, e))))
      ∙ ap (λ (rest : List Seen). told_seen (Some (word_told line f count most offset w (values v d))) rest) (words_in ws k (suc before) (offset + 8) h (omega (arith, e)))

  words : (b : Bool) (ws : List Id) → holds (value v d guard) ≡ b → all_seen (heard v (word_events d guard line f count most 0 0 ws ++ more)) ≡ (if b then draws_seen line f (word_count size) size 0 (map (value v d) ws) else []) ++ later
  words true ws h = words_in ws (word_count size) 0 0 h (omega arith)
  words false ws h = words_out ws 0 0 h

-- ---- all events

module _ (v : Valuation) (d : List Node) where
  kind_heard : (guard : Id) (line f : ℕ) (k : EventKind) (more : List Event)
      → all_seen (heard v (kind_events d guard line f k ++ more)) ≡ (if holds (value v d guard) then kind_seen v d line f k else []) ++ all_seen (heard v more)
  kind_heard guard line f (Draw bits answer) more = one (holds (value v d guard)) _ line f _ (all_seen (heard v more))
  kind_heard guard line f (Fill count most ids) more = words v d guard line f count most more (holds (value v d guard)) ids refl
  kind_heard guard line f (Read pointer count answer) more = one (holds (value v d guard)) _ line f _ (all_seen (heard v more))
  kind_heard guard line f (Write pointer bytes first) more = one (holds (value v d guard)) _ line f _ (all_seen (heard v more))
  kind_heard guard line f (Look pointer subscript answer) more = one (holds (value v d guard)) _ line f _ (all_seen (heard v more))
  kind_heard guard line f (Alloc amount bytes readonly heap answer) more = one (holds (value v d guard)) _ line f _ (all_seen (heard v more))
  kind_heard guard line f (Die pointer) more = one (holds (value v d guard)) _ line f _ (all_seen (heard v more))
  kind_heard guard line f (Free pointer) more = one (holds (value v d guard)) _ line f _ (all_seen (heard v more))
  kind_heard guard line f Exit more = exit (holds (value v d guard)) line f (all_seen (heard v more))
  kind_heard guard line f (Check class failing) more = stop (holds (value v d guard)) (holds (value v d failing)) (Broken class line f) (all_seen (heard v more))
  kind_heard guard line f (Assume failing) more = stop (holds (value v d guard)) (holds (value v d failing)) Blocked (all_seen (heard v more))

  pub events_heard : (es : List FormEvent) → all_seen (heard v (events_of d es)) ≡ seen v d es
  events_heard [] = refl
  events_heard (e ∷ es) = kind_heard e.guard e.line e.function e.kind (events_of d es) ∙ ap (λ (rest : List Seen). event_seen v d e ++ rest) (events_heard es)
