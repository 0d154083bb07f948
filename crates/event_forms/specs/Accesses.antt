-- What the actions of the one thread of a file do with the store, by the table of actions, and the run as the store lets it go.
use Rattle.std.specs.Prelude.{◌≡◌, ◌<◌, ◌^◌, ℕ, suc, Bool, true, false, ◌&&◌, ◌==◌, List, [], ◌∷◌, length, All, Option, Some, None}
use Rattle.words.specs.declared.check.Class.{Class}
use Rattle.actions.specs.ByteList.{are_bytes}
use Rattle.actions.specs.StoredObject.{StoredObject}
use Rattle.actions.specs.Objects.{Objects}
use Rattle.actions.specs.Memory.{Memory, changed}
use Rattle.actions.specs.Row.{Outcome, breaks, waits, moves, outcome_in}
use Rattle.actions.specs.Table.{row}
use Rattle.actions.specs.declared.action.Action.{Action}
use Rattle.actions.specs.declared.action.Answer.{Answer}
use Rattle.actions.specs.declared.action.Answer.TheVariants.{Done, Bytes, Size, Word, Number, Value}
use Rattle.actions.specs.declared.action.Next.TheVariants.{Broken}
use Rattle.interleave.specs.World.{first_common}
use Rattle.event_forms.specs.Runs.{Run, stops, asks}
use Rattle.event_forms.specs.Arrivals.{Seen, asked, stopped}

-- each object of a store has as many bytes as its size says, which 32 bits tell
pub record HoldsBytes (o : StoredObject) : Type 0 where
  pub whole : length o.bytes ≡ o.size
  pub small : o.size < 2 ^ 32
  pub bytes : are_bytes o.bytes ≡ true

abbrev pub AreObjects : Objects → Type 0
AreObjects objects = All (λ (e : ℕ × StoredObject). HoldsBytes e.1) objects

-- objects have these numbers, from this one on
abbrev pub AreNumbered : ℕ → Objects → Type 0
AreNumbered number [] = Unit {0}
AreNumbered number (e ∷ objects) = (e.0 ≡ number) × AreNumbered (suc number) objects

-- an object that is live, without cells, and not from `malloc` or `calloc`
pub record IsFirst (o : StoredObject) : Type 0 where
  pub lives : o.live ≡ true
  pub cells_are : o.cells ≡ []
  pub heap_is : o.heap ≡ false

-- the store at the start of a program: its numbers are 1, 2 and so on
pub record AreFirst (objects : Objects) : Type 0 where
  pub hold : AreObjects objects
  pub numbers : AreNumbered 1 objects
  pub first : All (λ (e : ℕ × StoredObject). IsFirst e.1) objects

-- ---- one action, where it is given this answer

abbrev pub memory_of : Objects → Memory
memory_of objects = (first_common objects).memory

-- what comes from the thread's own record: the word of a draw, or the number of what is made, which is the next one: the one thread has made all objects, dead ones too
abbrev pub own_by : Objects → Answer → ℕ
own_by objects Done = 0
own_by objects (Bytes bytes) = 0
own_by objects (Size size) = 0
own_by objects (Word w) = w.bits
own_by objects (Number number) = suc (length objects)
own_by objects (Value v) = 0

abbrev pub outcome_of : Objects → Action → Answer → Outcome
outcome_of objects action a = outcome_in (memory_of objects) (row 0 (own_by objects a) action)

abbrev pub class_in : Outcome → Option Class
class_in (breaks class) = Some class
class_in waits = None
class_in (moves answer change) = None

-- the class that it breaks
abbrev pub access_class : Objects → Action → Answer → Option Class
access_class objects action a = class_in (outcome_of objects action a)

abbrev pub same_bytes : List ℕ → List ℕ → Bool
same_bytes [] [] = true
same_bytes (b ∷ bs) (c ∷ cs) = (b == c) && same_bytes bs cs
same_bytes _ _ = false

abbrev pub same_answer : Answer → Answer → Bool
same_answer Done Done = true
same_answer (Bytes bs) (Bytes cs) = same_bytes bs cs
same_answer (Size m) (Size n) = m == n
same_answer (Word v) (Word w) = (v.width == w.width) && (v.bits == w.bits)
same_answer (Number m) (Number n) = m == n
same_answer (Value v) (Value w) = v == w
same_answer _ _ = false

abbrev pub has_answer : Outcome → Answer → Bool
has_answer (breaks class) a = false
has_answer waits a = false
has_answer (moves answer change) a = same_answer a answer

-- it moves with this answer: a read gives what the store holds there, and what is made the next number; what a draw gives is free
abbrev pub is_given : Objects → Action → Answer → Bool
is_given objects action a = has_answer (outcome_of objects action a) a

abbrev pub objects_behind : Outcome → Objects → Objects
objects_behind (breaks class) objects = objects
objects_behind waits objects = objects
objects_behind (moves answer change) objects = (changed (memory_of objects) change).objects

-- the store behind it, which one that breaks a check leaves alone
abbrev pub stored_by : Objects → Action → Answer → Objects
stored_by objects action a = objects_behind (outcome_of objects action a) objects

-- ---- a run

abbrev pub unless : Option Class → ℕ → ℕ → Run → Run
unless None line function run = run
unless (Some class) line function run = stops (Broken class line function)

-- the run from this store: it ends at the first access that breaks a check
abbrev pub checked : Objects → Run → Run
checked objects (stops end) = stops end
checked objects (asks action line function answer rest) =
    unless (access_class objects action answer) line function (asks action line function answer (checked (stored_by objects action answer) rest))

-- each of its actions moves with the answer that it is given
abbrev pub agrees : Objects → Run → Bool
agrees objects (stops end) = true
agrees objects (asks action line function answer rest) = is_given objects action answer && agrees (stored_by objects action answer) rest

-- the store behind all that is told
abbrev pub behind : Objects → List Seen → Objects
behind objects [] = objects
behind objects (asked action line function a ∷ told) = behind (stored_by objects action a) told
behind objects (stopped end ∷ told) = behind objects told
