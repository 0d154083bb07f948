-- What guarded events tell under a valuation of the variables, and which thread they are a form of.
use Rattle.std.specs.Prelude.{◌≡◌, ℕ, zero, suc, ◌+◌, ◌*◌, min, false, List, [], ◌∷◌, ◌++◌, map, take, All, if◌then◌else◌}
use Rattle.words.specs.BitVector.{word}
use Rattle.words.specs.Operators.{low_bits}
use Rattle.actions.specs.Behaviour.{Behaviour, word_64}
use Rattle.actions.specs.Objects.{Objects}
use Rattle.actions.specs.Pointer.{object_of}
use Rattle.c_values.specs.Variables.{word_count, drawn_count}
use Rattle.c_values.specs.MadeObjects.{made_of}
use Rattle.actions.specs.LocalRun.{Exchange, IsLocalRun}
use Rattle.actions.specs.declared.action.Action.TheVariants as actions
use Rattle.actions.specs.declared.action.Answer.TheVariants as answers
use Rattle.actions.specs.declared.action.Next.{Next}
use Rattle.actions.specs.declared.action.Next.TheVariants.{Act, Ended, Blocked, Broken}
use Rattle.word_dag.specs.declared.nodes.Id.{Id}
use Rattle.word_dag.specs.declared.nodes.Node.{Node}
use Rattle.word_dag.specs.declared.nodes.Node.TheVariants.{Constant}
use Rattle.word_dag.specs.Meaning.{width, value, holds}
use Rattle.word_dag.specs.Growth.{Within, Stands}
use Rattle.value_nodes.specs.Values.{IsWord, AreBytes}
use Rattle.event_forms.specs.declared.forms.Event.{Event}
use Rattle.event_forms.specs.declared.forms.EventKind.{EventKind}
use Rattle.event_forms.specs.declared.forms.EventKind.TheVariants.{Draw, Fill, Read, Write, Look, Alloc, Die, Free, Exit, Check, Assume}
use Rattle.event_forms.specs.Runs.{Run, stops, asks, bytes_of_words, word_widths}
use Rattle.event_forms.specs.Arrivals.{Seen, asked, stopped, read}

-- ---- under one valuation

-- so many words are drawn for bytes of which there are `size`, from an offset on: 8 bytes a word, the last of the bytes that are left
abbrev pub draws_seen : (line function words size offset : ℕ) → List ℕ → List Seen
draws_seen line f zero size offset ws = []
draws_seen line f (suc k) size offset [] = []
draws_seen line f (suc k) size offset (w ∷ ws) =
    let bits = 8 * drawn_count size offset in asked (actions.Draw bits) line f (answers.Word (word bits (low_bits bits w))) ∷ draws_seen line f k size (offset + 8) ws

-- where the guard is true
abbrev pub kind_seen : (ℕ → ℕ) → List Node → (line function : ℕ) → EventKind → List Seen
kind_seen v d line f (Draw bits answer) = asked (actions.Draw bits) line f (answers.Word (word bits (value v d answer))) ∷ []
kind_seen v d line f (Fill count most words) = let size = min (value v d count) most in draws_seen line f (word_count size) size 0 (map (value v d) words)
kind_seen v d line f (Read pointer count answer) = asked (actions.Read (value v d pointer) count) line f (answers.Bytes (bytes_of_words count (map (value v d) answer))) ∷ []
kind_seen v d line f (Write pointer bytes first) = asked (actions.Write (value v d pointer) (map (value v d) bytes) first) line f answers.Done ∷ []
kind_seen v d line f (Look pointer subscript answer) = asked (actions.Look (value v d pointer) subscript) line f (answers.Size (value v d answer)) ∷ []
kind_seen v d line f (Alloc size bytes readonly heap answer) =
    asked (actions.Alloc (made_of readonly heap (take (value v d size) (map (value v d) bytes)))) line f (answers.Number (value v d answer)) ∷ []
kind_seen v d line f (Die pointer) = asked (actions.Die (object_of (value v d pointer))) line f answers.Done ∷ []
kind_seen v d line f (Free pointer) = asked (actions.Free (value v d pointer)) line f answers.Done ∷ []
kind_seen v d line f Exit = asked actions.Exit line f answers.Done ∷ stopped (Ended (word_64 0)) ∷ []
kind_seen v d line f (Check class failing) = if holds (value v d failing) then stopped (Broken class line f) ∷ [] else []
kind_seen v d line f (Assume failing) = if holds (value v d failing) then stopped Blocked ∷ [] else []

abbrev pub event_seen : (ℕ → ℕ) → List Node → Event → List Seen
event_seen v d e = if holds (value v d e.guard) then kind_seen v d e.line e.function e.kind else []

abbrev pub seen : (ℕ → ℕ) → List Node → List Event → List Seen
seen v d [] = []
seen v d (e ∷ es) = event_seen v d e ++ seen v d es

-- the run that the events tell; a thread that tells no end has ended with 0
abbrev pub run_read : (ℕ → ℕ) → List Node → List Event → Run
run_read v d es = read (seen v d es) (stops (Ended (word_64 0)))

-- ---- under all

-- the run begins with these exchanges, and this is what is next
abbrev pub Begins : List Exchange → Next → Run → Type 0
Begins [] next (stops end) = end ≡ next
Begins [] next (asks action line f answer rest) = Act action line f ≡ next
Begins (x ∷ run) next (stops end) = ⊥
Begins (x ∷ run) next (asks action line f answer rest) =
    (x.action ≡ action) × (x.line ≡ line) × (x.function ≡ f) × (x.answer ≡ answer) × Begins run next rest

-- the run of each valuation, stopped anywhere, is a local run of the thread, and each local run is that of a valuation
pub record IsForm (b : Behaviour) (d : List Node) (es : List Event) : Type 0 where
  pub gives : (v : ℕ → ℕ) (run : List Exchange) (next : Next) → Begins run next (run_read v d es) → IsLocalRun b run next
  pub has : (run : List Exchange) (next : Next) → IsLocalRun b run next → (v : ℕ → ℕ) × Begins run next (run_read v d es)

-- ---- the nodes of events

-- a node that is a truth value
pub record IsBit (d : List Node) (i : Id) : Type 0 where
  pub there : Within d i
  pub width_is : width d i ≡ 1

-- the words of so many bytes
pub record AreWords (d : List Node) (count : ℕ) (ids : List Id) : Type 0 where
  pub there : All (Within d) ids
  pub widths : map (width d) ids ≡ word_widths (word_count count) count

abbrev pub KindIn : List Node → EventKind → Type 0
KindIn d (Draw bits answer) = IsWord d answer bits
KindIn d (Fill count most words) = IsWord d count 64 × AreWords d most words
KindIn d (Read pointer count answer) = IsWord d pointer 64 × AreWords d count answer
KindIn d (Write pointer bytes first) = IsWord d pointer 64 × AreBytes d bytes
KindIn d (Look pointer subscript answer) = IsWord d pointer 64 × IsWord d answer 32
KindIn d (Alloc size bytes readonly heap answer) = IsWord d size 64 × AreBytes d bytes × IsWord d answer 32
KindIn d (Die pointer) = IsWord d pointer 64
KindIn d (Free pointer) = IsWord d pointer 64
KindIn d Exit = Unit {0}
KindIn d (Check class failing) = IsBit d failing
KindIn d (Assume failing) = IsBit d failing

pub record EventIn (d : List Node) (e : Event) : Type 0 where
  pub guard : IsBit d e.guard
  pub kind : KindIn d e.kind

-- each node that an event names is one of the graph, of the right width
abbrev pub FormIn : List Node → List Event → Type 0
FormIn d es = All (EventIn d) es

-- the events of a thread, and the store at the start of the program
pub record Form : Type 0 where
  pub events : List Event
  pub store : Objects

-- one form, of thread 0, with this store
abbrev pub AreForms : Behaviour → Objects → List Node → List Form → Type 0
AreForms b objects d [] = ⊥
AreForms b objects d (f ∷ []) = IsForm b d f.events × FormIn d f.events × (f.store ≡ objects)
AreForms b objects d (f ∷ (more ∷ others)) = ⊥

-- ---- forms of code without operations on pointers

-- a pointer that is a constant node: to a static object
abbrev pub IsFixed : List Node → Id → Type 0
IsFixed d p = (bits : ℕ) × Stands d (Constant bits 64) p

-- of the kinds that such code has, and each pointer is a constant
abbrev pub IsStaticKind : List Node → EventKind → Type 0
IsStaticKind d (Draw bits answer) = Unit {0}
IsStaticKind d (Fill count most words) = ⊥
IsStaticKind d (Read pointer count answer) = IsFixed d pointer
IsStaticKind d (Write pointer bytes first) = IsFixed d pointer × (first ≡ false)
IsStaticKind d (Look pointer subscript answer) = ⊥
IsStaticKind d (Alloc size bytes readonly heap answer) = ⊥
IsStaticKind d (Die pointer) = ⊥
IsStaticKind d (Free pointer) = ⊥
IsStaticKind d Exit = Unit {0}
IsStaticKind d (Check class failing) = Unit {0}
IsStaticKind d (Assume failing) = Unit {0}

abbrev pub AreStatic : List Node → List Event → Type 0
AreStatic d es = All (λ (e : Event). IsStaticKind d e.kind) es

abbrev pub AreStaticForms : List Node → List Form → Type 0
AreStaticForms d fs = All (λ (f : Form). AreStatic d f.events) fs
