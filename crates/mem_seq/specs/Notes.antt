-- What is noted of events, from the first to the last: how each depends on what the store holds where it is reached.
use Rattle.std.specs.Prelude.{◌≡◌, ℕ, Bool, true, ◌&&◌, List, [], ◌∷◌}
use Rattle.actions.specs.Objects.{Objects}
use Rattle.word_dag.specs.declared.nodes.Node.{Node}
use Rattle.word_dag.specs.Meaning.{value, holds}
use Rattle.event_forms.specs.declared.forms.Event.{Event}
use Rattle.event_forms.specs.Forms.{kind_seen, event_seen, IsBit}
use Rattle.mem_seq.specs.declared.memory.Note.{Note}
use Rattle.mem_seq.specs.declared.memory.Note.TheVariants as notes
use Rattle.event_forms.specs.Accesses.{behind}
use Rattle.mem_seq.specs.Goals.{breaks_from}

-- the node that it names is a truth value of the graph
abbrev pub NoteIn : List Node → Note → Type 0
NoteIn d (notes.Gives i) = IsBit d i
NoteIn d _ = Unit {0}

-- of an event that is reached, under each valuation, with one of these stores, where its guard is true
abbrev pub IsNote : ((ℕ → ℕ) → Objects) → List Node → Event → Note → Type 0
IsNote stores d e notes.Passes = (v : ℕ → ℕ) (later : Bool) → breaks_from (stores v) (kind_seen v d e.line e.function e.kind) later ≡ later
IsNote stores d e notes.Breaks = (v : ℕ → ℕ) (later : Bool) → breaks_from (stores v) (kind_seen v d e.line e.function e.kind) later ≡ true
IsNote stores d e (notes.Gives i) = (v : ℕ → ℕ) (later : Bool) → holds (value v d e.guard) ≡ true → breaks_from (stores v) (kind_seen v d e.line e.function e.kind) later ≡ (holds (value v d i) && later)
IsNote stores d e notes.Alone = (v : ℕ → ℕ) (later : Bool) → breaks_from (stores v) (kind_seen v d e.line e.function e.kind) later ≡ breaks_from [] (kind_seen v d e.line e.function e.kind) later

-- of events, the first of which is reached with one of these stores
abbrev pub AreNotes : ((ℕ → ℕ) → Objects) → List Node → List Event → List Note → Type 0
AreNotes stores d [] [] = Unit {0}
AreNotes stores d [] (n ∷ ns) = ⊥
AreNotes stores d (e ∷ es) [] = ⊥
AreNotes stores d (e ∷ es) (n ∷ ns) = IsNote stores d e n × AreNotes (λ v. behind (stores v) (event_seen v d e)) d es ns
