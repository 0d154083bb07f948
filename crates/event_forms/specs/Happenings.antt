-- What happens in a run, turn after turn, whatever its threads are (CAV 2013, the sequentially consistent case: one order of all actions).
use Rattle.std.specs.Prelude.{◌≡◌, ◌==◌, ℕ, List, [], ◌∷◌, map, Option, Some, None, if◌then◌else◌}
use Rattle.words.specs.declared.check.Check.{Check}
use Rattle.actions.specs.declared.action.Action.{Action}
use Rattle.actions.specs.declared.action.Answer.{Answer}
use Rattle.actions.specs.declared.action.Answer.TheVariants as answers
use Rattle.actions.specs.declared.action.Next.{Next}
use Rattle.actions.specs.declared.action.Next.TheVariants.{Act, Ended, Blocked, Broken}
use Rattle.actions.specs.Row.{Outcome, breaks, waits, moves}
use Rattle.interleave.specs.declared.counts.Counts.{Counts}
use Rattle.interleave.specs.Inputs.{InputLists, words_of}
use Rattle.interleave.specs.World.{World, Common, Member, member_at, may_move}
use Rattle.interleave.specs.Turn.{turn, outcome, check_of}

-- a thread makes this action, of a line and a function, and is given this answer; or it breaks a check, which names the thread
pub data Happening : Type 0 where
  does : (t : ℕ) (action : Action) (line function : ℕ) (answer : Answer) → Happening
  fails : (check : Check) → Happening

-- ---- in a turn of thread t: nothing where it may not move, has ended, is blocked or waits

abbrev pub action_happens : ℕ → Action → ℕ → ℕ → Outcome → Option Happening
action_happens t action line function (breaks class) = Some (fails (check_of class line function t))
action_happens t action line function waits = None
action_happens t action line function (moves answer change) = Some (does t action line function answer)

abbrev pub next_happens : Common → ℕ → List ℕ → Counts → Next → Option Happening
next_happens c t words counts (Act action line function) = action_happens t action line function (outcome c t words counts action)
next_happens c t words counts (Ended v) = None
next_happens c t words counts Blocked = None
next_happens c t words counts (Broken class line function) = Some (fails (check_of class line function t))

abbrev pub member_happens : Common → ℕ → List ℕ → Option Member → Option Happening
member_happens c t words None = None
member_happens c t words (Some m) = next_happens c t words m.counts (m.thread.behaves [])

abbrev pub happens : World → ℕ → InputLists → Option Happening
happens w t inputs = if may_move w.common t then member_happens w.common t (words_of inputs t) (member_at w.members t) else None

-- ---- in a run from w: up to the first check that is broken

abbrev pub before : Option Happening → List Happening → List Happening
before None later = later
before (Some (does t action line function answer)) later = does t action line function answer ∷ later
before (Some (fails check)) later = fails check ∷ []

abbrev pub happened : World → InputLists → List ℕ → List Happening
happened w inputs [] = []
happened w inputs (t ∷ schedule) = before (happens w t inputs) (happened (turn w t inputs).1 inputs schedule)

-- ---- what can be read off

abbrev pub thread_of : Happening → ℕ
thread_of (does t action line function answer) = t
thread_of (fails check) = check.thread

-- the turns
abbrev pub schedule_in : List Happening → List ℕ
schedule_in told = map thread_of told

-- the words that an answer gives, in front of later ones: only a draw gives one
abbrev pub words_given : Answer → List ℕ → List ℕ
words_given answers.Done words = words
words_given (answers.Bytes bytes) words = words
words_given (answers.Size size) words = words
words_given (answers.Word w) words = w.bits ∷ words
words_given (answers.Number number) words = words
words_given (answers.Value v) words = words

abbrev pub words_with : ℕ → Happening → List ℕ → List ℕ
words_with t (does s action line function answer) words = if s == t then words_given answer words else words
words_with t (fails check) words = words

-- the words that thread t draws, in order
abbrev pub words_drawn : ℕ → List Happening → List ℕ
words_drawn t [] = []
words_drawn t (h ∷ told) = words_with t h (words_drawn t told)

-- the inputs are exactly the words drawn
abbrev pub AreDrawn : InputLists → List Happening → Type 0
AreDrawn inputs told = (t : ℕ) → words_of inputs t ≡ words_drawn t told

-- the check that is broken, if one is
abbrev pub check_in : List Happening → Option Check
check_in [] = None
check_in (does t action line function answer ∷ told) = check_in told
check_in (fails check ∷ told) = Some check
