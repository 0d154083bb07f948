-- States from which no run breaks a check, and a run that breaks one in its last turn.
use Rattle.std.specs.Prelude.{◌≡◌, ◌<◌, ◌^◌, ℕ, List, [], ◌∷◌, ◌++◌, length, Option, Some, None, slice_get}
use Rattle.words.specs.declared.check.Check.{Check}
use Rattle.actions.specs.declared.action.Action.TheVariants.{Draw}
use Rattle.actions.specs.declared.action.Next.{Next}
use Rattle.actions.specs.declared.action.Next.TheVariants.{Act}
use Rattle.interleave.specs.declared.turn.Turn.TheVariants as turned
use Rattle.interleave.specs.declared.turn.Outcome.TheVariants as ending
use Rattle.interleave.specs.Inputs.{InputLists, words_of}
use Rattle.interleave.specs.World.{World, Member, member_at}
use Rattle.interleave.specs.View.{next_at}
use Rattle.interleave.specs.Turn.{turn}
use Rattle.interleave.specs.Run.{run}

-- no inputs and no schedule break a check
abbrev pub IsSafe : World → Type 0
IsSafe w = (inputs : InputLists) (schedule : List ℕ) → (run w inputs schedule).0 ≡ ending.Fine

-- how many input words a thread has used
abbrev pub used_of : Option Member → ℕ
used_of None = 0
used_of (Some m) = m.counts.used

abbrev pub used_by : World → ℕ → ℕ
used_by w t = used_of (member_at w.members t)

-- where a draw is next, there is a word for it to take, which has no more bits than it asks for
abbrev pub IsDrawnWhole : Option Next → Option ℕ → Type 0
IsDrawnWhole (Some (Act (Draw n) line function)) None = ⊥
IsDrawnWhole (Some (Act (Draw n) line function)) (Some word) = word < 2 ^ n
IsDrawnWhole _ word = Unit {0}

-- a turn of thread t that moves to the next state
pub record MovesTo (inputs : InputLists) (t : ℕ) (w next : World) : Type 0 where
  pub turn_is : turn w t inputs ≡ (turned.Moved, next)
  pub drawn : IsDrawnWhole (next_at w.members t) (slice_get (words_of inputs t) (used_by w t))

-- each turn of the schedule moves, from the first state to the last
abbrev pub Moves : InputLists → List ℕ → World → World → Type 0
Moves inputs [] first last = first ≡ last
Moves inputs (t ∷ schedule) first last = (next : World) × MovesTo inputs t first next × Moves inputs schedule next last

-- The run from w on these inputs by this schedule breaks the check: its last turn breaks it, every earlier turn moves, and the inputs are exactly the words that the threads drew.
pub record Replays (w : World) (inputs : InputLists) (schedule : List ℕ) (check : Check) : Type 0 where
  pub breaks : (run w inputs schedule).0 ≡ ending.Broken check
  pub front : List ℕ
  pub last : ℕ
  pub whole : schedule ≡ front ++ last ∷ []
  pub reached : World
  pub moves : Moves inputs front w reached
  pub breaks_there : (turn reached last inputs).0 ≡ turned.Broken check
  pub drawn_all : (t : ℕ) → used_by reached t ≡ length (words_of inputs t)
