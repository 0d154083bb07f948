-- What a thread does in a turn, by what is next in it: an action with its own part, or a check that it breaks by itself.
use Rattle.std.specs.Prelude.{◌≡◌, ℕ, ◌<◌, ◌^◌, List, []}
use Rattle.words.specs.declared.check.Class.{Class}
use Rattle.words.specs.declared.check.Check.{Check}
use Rattle.actions.specs.declared.action.Action.{Action}
use Rattle.actions.specs.declared.action.Action.TheVariants.{Draw}
use Rattle.actions.specs.declared.action.Answer.{Answer}
use Rattle.actions.specs.declared.action.Next.{Next}
use Rattle.actions.specs.declared.action.Next.TheVariants.{Act, Ended, Blocked, Broken}
use Rattle.actions.specs.Behaviour.{answered}
use Rattle.actions.specs.Memory.{Change, keeps}
use Rattle.actions.specs.Row.{Row, comes, Outcome, breaks, waits, moves}
use Rattle.actions.specs.Table.{row, Mode, plain, mode_of}
use Rattle.interleave.specs.declared.counts.Counts.{Counts}
use Rattle.interleave.specs.declared.turn.Turn.{Turn}
use Rattle.interleave.specs.declared.turn.Turn.TheVariants as turned
use Rattle.interleave.specs.Own.{own_part, counted}
use Rattle.interleave.specs.World.{Member}
use Rattle.interleave.specs.Turn.{check_of}

-- the row of thread t's step; a thread that has ended or is blocked makes none
abbrev pub row_by : ℕ → ℕ → Next → Row
row_by t own (Act action line function) = row t own action
row_by t own (Ended v) = comes waits
row_by t own Blocked = comes waits
row_by t own (Broken class line function) = comes (breaks class)

-- what thread t's record gives to its step
abbrev pub own_by : ℕ → List ℕ → Counts → Next → ℕ
own_by t words counts (Act action line function) = own_part t words counts action
own_by t words counts _ = 0

abbrev pub mode_by : Next → Mode
mode_by (Act action line function) = mode_of action
mode_by _ = plain

abbrev pub check_by : ℕ → Class → Next → Check
check_by t class (Act action line function) = check_of class line function t
check_by t class (Broken own line function) = check_of class line function t
check_by t class _ = check_of class 0 0 t

abbrev pub change_by : Outcome → Change
change_by (moves answer change) = change
change_by _ = keeps

-- the answer of a turn in which a thread makes this step
abbrev pub turn_by : ℕ → Next → Outcome → Turn
turn_by t next (breaks class) = turned.Broken (check_by t class next)
turn_by t next waits = turned.Nothing
turn_by t next (moves answer change) = turned.Moved

-- the own part of a step: a Draw may give any word of its bits; an Alloc and a Create take the next number of their thread
abbrev pub IsOwnOf : ℕ → Counts → ℕ → Action → Type 0
IsOwnOf t counts own (Draw n) = own < 2 ^ n
IsOwnOf t counts own action = own ≡ own_part t [] counts action

abbrev pub IsOwn : ℕ → Counts → ℕ → Next → Type 0
IsOwn t counts own (Act action line function) = IsOwnOf t counts own action
IsOwn t counts own _ = Unit {0}

abbrev pub counted_by : List ℕ → Counts → Next → Counts
counted_by words counts (Act action line function) = counted words counts action
counted_by words counts _ = counts

-- the thread after the answer to its step
abbrev pub told_by : List ℕ → Member → Next → Answer → Member
told_by words m next a = record { thread = answered m.thread a; counts = counted_by words m.counts next }
