-- The meaning of a thread: what is next after each list of answers.
use Rattle.std.specs.Prelude.{◌≡◌, ◌<◌, ℕ, ◌^◌, Bool, true, false, ◌&&◌, nat_lt, ◌==◌, List, [], ◌∷◌, ◌++◌, length, Option, Some, None, IfSome}
use Rattle.words.specs.BitVector.{BitVector}
use Rattle.actions.specs.ByteList.{are_bytes}
use Rattle.actions.specs.StoredObject.{StoredObject, CanBeMade}
use Rattle.actions.specs.declared.action.Action.{Action}
use Rattle.actions.specs.declared.action.Action.TheVariants.{Read, Write, Look, Draw, Alloc, Die, Free, SectionBegin, SectionEnd, Lock, Unlock, MutexInit, MutexDestroy, Create, Join, End, Exit}
use Rattle.actions.specs.declared.action.Answer.{Answer}
use Rattle.actions.specs.declared.action.Answer.TheVariants as answer
use Rattle.actions.specs.declared.action.Next.{Next}
use Rattle.actions.specs.declared.action.Next.TheVariants.{Act, Ended, Blocked, Broken}

-- what is next after these answers, the first answer first
abbrev pub Behaviour : Type 0
Behaviour = List Answer → Next

abbrev pub after : Behaviour → Answer → Behaviour
after behaves a = λ answers. behaves (a ∷ answers)

-- ---- the shape of an answer

pub data Shape : Type 0 where
  nothing : Shape
  bytes : (n : ℕ) → Shape
  size : Shape
  word : (width : ℕ) → Shape
  number : Shape
  value : Shape

abbrev pub shape_of : Action → Shape
shape_of (Read p n) = bytes n
shape_of (Write p new first) = nothing
shape_of (Look p subscript) = size
shape_of (Draw n) = word n
shape_of (Alloc o) = number
shape_of (Die k) = nothing
shape_of (Free p) = nothing
shape_of SectionBegin = nothing
shape_of SectionEnd = nothing
shape_of (Lock p) = nothing
shape_of (Unlock p) = nothing
shape_of (MutexInit p) = nothing
shape_of (MutexDestroy p) = nothing
shape_of (Create f v) = number
shape_of (Join k) = value
shape_of (End v) = nothing
shape_of Exit = nothing

abbrev pub has_shape : Shape → Answer → Bool
has_shape nothing answer.Done = true
has_shape (bytes n) (answer.Bytes bs) = (length bs == n) && are_bytes bs
has_shape size (answer.Size n) = nat_lt n (2 ^ 32)
has_shape (word width) (answer.Word w) = (w.width == width) && nat_lt w.bits (2 ^ width)
has_shape number (answer.Number n) = nat_lt n (2 ^ 32)
has_shape value (answer.Value v) = nat_lt v (2 ^ 64)
has_shape _ _ = false

-- an action is next, and the answer has its shape
abbrev pub accepts : Next → Answer → Bool
accepts (Act action line function) a = has_shape (shape_of action) a
accepts (Ended v) a = false
accepts Blocked a = false
accepts (Broken class line function) a = false

-- ---- threads

-- what the threads of a program do: which functions a thread can be started in, and what a thread does that starts in a function with an argument
pub record Program : Type 0 where
  pub can_start : ℕ → Bool
  pub behaves : ℕ → ℕ → Behaviour

pub record Thread : Type 0 where
  pub behaves : Behaviour
  pub program : Program

abbrev pub started : Thread → ℕ → ℕ → Thread
started t function v = record { behaves = t.program.behaves function v; program = t.program }

abbrev pub answered : Thread → Answer → Thread
answered t a = record { behaves = after t.behaves a; program = t.program }

-- ---- what is true of each thread

abbrev pub word_64 : ℕ → BitVector
word_64 v = record { bits = v; width = 64 }

-- after an answer that can't come the thread is blocked
abbrev pub IsProper : Behaviour → Type 0
IsProper behaves = (before : List Answer) (a : Answer) (later : List Answer) → accepts (behaves before) a ≡ false → behaves (before ++ a ∷ later) ≡ Blocked

abbrev pub CanStart : Program → Next → Type 0
CanStart program (Act (Create f v) line function) = (program.can_start f ≡ true) × (v < 2 ^ 64)
CanStart program _ = Unit {0}

-- the object that an action makes
abbrev pub made_by : Action → Option StoredObject
made_by (Read p n) = None
made_by (Write p new first) = None
made_by (Look p subscript) = None
made_by (Draw n) = None
made_by (Alloc o) = Some o
made_by (Die k) = None
made_by (Free p) = None
made_by SectionBegin = None
made_by SectionEnd = None
made_by (Lock p) = None
made_by (Unlock p) = None
made_by (MutexInit p) = None
made_by (MutexDestroy p) = None
made_by (Create f v) = None
made_by (Join k) = None
made_by (End v) = None
made_by Exit = None

abbrev pub MakesProper : Next → Type 0
MakesProper (Act action line function) = IfSome (made_by action) CanBeMade
MakesProper (Ended v) = Unit {0}
MakesProper Blocked = Unit {0}
MakesProper (Broken class line function) = Unit {0}

-- after the answer to an End the thread has ended with its value, and after that to an Exit with 0
abbrev pub EndsAfter : Next → Answer → Next → Type 0
EndsAfter (Act (End v) line function) a next = accepts (Act (End v) line function) a ≡ true → next ≡ Ended (word_64 v)
EndsAfter (Act Exit line function) a next = accepts (Act Exit line function) a ≡ true → next ≡ Ended (word_64 0)
EndsAfter _ a next = Unit {0}

pub record IsBehaviour (program : Program) (behaves : Behaviour) : Type 0 where
  pub proper : IsProper behaves
  pub creates : (answers : List Answer) → CanStart program (behaves answers)
  pub makes : (answers : List Answer) → MakesProper (behaves answers)
  pub ends : (answers : List Answer) (a : Answer) → EndsAfter (behaves answers) a (behaves (answers ++ a ∷ []))

-- it holds of the thread, and of each thread that its program starts
pub record IsThread (t : Thread) : Type 0 where
  pub itself : IsBehaviour t.program t.behaves
  pub others : (f v : ℕ) → t.program.can_start f ≡ true → v < 2 ^ 64 → IsBehaviour t.program (t.program.behaves f v)
