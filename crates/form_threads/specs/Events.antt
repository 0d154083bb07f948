-- The form of a file's thread as forms of threads: its events over a graph as events over valuations. Each action, check and assumption is one event; a draw of several words is one for each word, and an exit has the thread's end behind it.
use Rattle.std.specs.Prelude.{ℕ, zero, suc, ◌+◌, ◌*◌, max, min, nat_lt, Bool, true, false, ◌&&◌, List, [], ◌∷◌, ◌++◌, map, take}
use Rattle.words.specs.BitVector.{word}
use Rattle.words.specs.Operators.{low_bits}
use Rattle.actions.specs.Behaviour.{Thread, word_64}
use Rattle.actions.specs.Pointer.{object_of}
use Rattle.actions.specs.declared.action.Action.{Action}
use Rattle.actions.specs.declared.action.Action.TheVariants as actions
use Rattle.actions.specs.declared.action.Answer.{Answer}
use Rattle.actions.specs.declared.action.Answer.TheVariants as answers
use Rattle.actions.specs.declared.action.Next.{Next}
use Rattle.actions.specs.declared.action.Next.TheVariants.{Act, Ended, Blocked, Broken}
use Rattle.c_values.specs.Variables.{word_count, drawn_count}
use Rattle.c_values.specs.MadeObjects.{made_of}
use Rattle.word_dag.specs.declared.nodes.Id.{Id}
use Rattle.word_dag.specs.declared.nodes.Node.{Node}
use Rattle.word_dag.specs.declared.nodes.Node.TheVariants.{Variable}
use Rattle.word_dag.specs.Meaning.{at, values, holds}
use Rattle.event_forms.specs.declared.forms.Event.{Event as FormEvent}
use Rattle.event_forms.specs.declared.forms.EventKind.{EventKind}
use Rattle.event_forms.specs.declared.forms.EventKind.TheVariants.{Draw, Fill, Read, Write, Look, Alloc, Die, Free, Exit, Check, Assume}
use Rattle.event_forms.specs.Runs.{bytes_of_words}
use Rattle.event_forms.specs.Forms.{IsForm}
use Rattle.thread_forms.specs.Forms.{Told, passes, asks, stops, Event, Forms, AreForms}

-- ---- what is told, by the values of all nodes

abbrev pub stops_where : Bool → Next → Told
stops_where false next = passes
stops_where true next = stops next

abbrev pub told : Action → (line function : ℕ) → Answer → Told
told action line f a = asks (Act action line f) a

-- by an event of each kind, but that of a draw of several words
abbrev pub kind_told : (line function : ℕ) → EventKind → List ℕ → Told
kind_told line f (Draw bits answer) vs = told (actions.Draw bits) line f (answers.Word (word bits (at vs answer)))
kind_told line f (Fill count most words) vs = passes
kind_told line f (Read pointer count answer) vs = told (actions.Read (at vs pointer) count) line f (answers.Bytes (bytes_of_words count (map (at vs) answer)))
kind_told line f (Write pointer bytes first) vs = told (actions.Write (at vs pointer) (map (at vs) bytes) first) line f answers.Done
kind_told line f (Look pointer subscript answer) vs = told (actions.Look (at vs pointer) subscript) line f (answers.Size (at vs answer))
kind_told line f (Alloc size bytes readonly heap answer) vs = told (actions.Alloc (made_of readonly heap (take (at vs size) (map (at vs) bytes)))) line f (answers.Number (at vs answer))
kind_told line f (Die pointer) vs = told (actions.Die (object_of (at vs pointer))) line f answers.Done
kind_told line f (Free pointer) vs = told (actions.Free (at vs pointer)) line f answers.Done
kind_told line f Exit vs = told actions.Exit line f answers.Done
kind_told line f (Check class failing) vs = stops_where (holds (at vs failing)) (Broken class line f)
kind_told line f (Assume failing) vs = stops_where (holds (at vs failing)) Blocked

-- the bytes that are drawn
abbrev pub drawn_size : Id → ℕ → List ℕ → ℕ
drawn_size count most vs = min (at vs count) most

-- the word for those from an offset on
abbrev pub word_told : (line function : ℕ) → Id → ℕ → ℕ → Id → List ℕ → Told
word_told line f count most offset w vs =
    let bits = 8 * drawn_count (drawn_size count most vs) offset in told (actions.Draw bits) line f (answers.Word (word bits (low_bits bits (at vs w))))

-- it is drawn where there are more words than those before it
abbrev pub word_guard : Id → Id → ℕ → ℕ → List ℕ → Bool
word_guard guard count most before vs = holds (at vs guard) && nat_lt before (word_count (drawn_size count most vs))

-- ---- events

module _ (d : List Node) where
  abbrev pub event_by : (List ℕ → Bool) → (List ℕ → Told) → Event
  event_by guard tells = record { guard = λ v. guard (values v d); told = λ v. tells (values v d) }

  -- where the guard is true
  abbrev pub event_at : Id → (List ℕ → Told) → Event
  event_at guard tells = event_by (λ vs. holds (at vs guard)) tells

  abbrev pub word_events : (guard : Id) (line function : ℕ) (count : Id) (most before offset : ℕ) → List Id → List Event
  word_events guard line f count most before offset [] = []
  word_events guard line f count most before offset (w ∷ ws) =
      event_by (word_guard guard count most before) (word_told line f count most offset w) ∷ word_events guard line f count most (suc before) (offset + 8) ws

  abbrev pub kind_events : (guard : Id) (line function : ℕ) → EventKind → List Event
  kind_events guard line f (Draw bits answer) = event_at guard (kind_told line f (Draw bits answer)) ∷ []
  kind_events guard line f (Fill count most words) = word_events guard line f count most 0 0 words
  kind_events guard line f (Read pointer count answer) = event_at guard (kind_told line f (Read pointer count answer)) ∷ []
  kind_events guard line f (Write pointer bytes first) = event_at guard (kind_told line f (Write pointer bytes first)) ∷ []
  kind_events guard line f (Look pointer subscript answer) = event_at guard (kind_told line f (Look pointer subscript answer)) ∷ []
  kind_events guard line f (Alloc size bytes readonly heap answer) = event_at guard (kind_told line f (Alloc size bytes readonly heap answer)) ∷ []
  kind_events guard line f (Die pointer) = event_at guard (kind_told line f (Die pointer)) ∷ []
  kind_events guard line f (Free pointer) = event_at guard (kind_told line f (Free pointer)) ∷ []
  kind_events guard line f Exit = event_at guard (kind_told line f Exit) ∷ event_at guard (λ vs. stops (Ended (word_64 0))) ∷ []
  kind_events guard line f (Check class failing) = event_at guard (kind_told line f (Check class failing)) ∷ []
  kind_events guard line f (Assume failing) = event_at guard (kind_told line f (Assume failing)) ∷ []

  abbrev pub events_of : List FormEvent → List Event
  events_of [] = []
  events_of (e ∷ es) = kind_events e.guard e.line e.function e.kind ++ events_of es

-- ---- forms

-- above the variables of a graph
abbrev pub above : Node → ℕ
above (Variable x w) = suc x
above _ = 0

abbrev pub variables_below : List Node → ℕ
variables_below [] = 0
variables_below (n ∷ ns) = max (above n) (variables_below ns)

abbrev pub no_event : Event
no_event = record { guard = λ v. false; told = λ v. passes }

abbrev pub events_at : List Node → List FormEvent → ℕ → List Event
events_at d es zero = events_of d es
events_at d es (suc i) = []

abbrev pub low_at : List Node → ℕ → ℕ
low_at d zero = 0
low_at d (suc i) = variables_below d

-- one form, which creates no thread
abbrev pub forms_of : List Node → List FormEvent → Forms
forms_of d es = record { many = 1; events = events_at d es; creator = λ i. record { form = 0; place = 0; event = no_event }; low = low_at d }

abbrev pub FormIsOfThreads : Type 0
FormIsOfThreads = (t : Thread) (d : List Node) (es : List FormEvent) → IsForm t.behaves d es → AreForms t (forms_of d es)
