-- A turn: a thread makes its silent steps and its next action with all its checks, or breaks on the way. It changes nothing where the thread can't move, waits or breaks.
use Rattle.std.specs.Prelude.{◌≡◌, ◌+◌, ◌<◌, ◌^◌, ℕ, List, [], Option, Some, None, if◌then◌else◌}
use Rattle.words.specs.declared.check.Class.{Class}
use Rattle.words.specs.declared.check.Check.{Check}
use Rattle.actions.specs.declared.action.Action.{Action}
use Rattle.actions.specs.declared.action.Action.TheVariants.{Alloc, Create}
use Rattle.actions.specs.declared.action.Next.{Next}
use Rattle.actions.specs.declared.action.Next.TheVariants as next
use Rattle.actions.specs.Objects.{object_at}
use Rattle.actions.specs.Memory.{Memory, thread_at}
use Rattle.actions.specs.Row.{Outcome, breaks, waits, moves, outcome_in}
use Rattle.actions.specs.Table.{row}
use Rattle.interleave.specs.declared.turn.Turn.{Turn}
use Rattle.interleave.specs.declared.turn.Turn.TheVariants as turned
use Rattle.interleave.specs.declared.counts.Counts.{Counts}
use Rattle.interleave.specs.Inputs.{InputLists, words_of}
use Rattle.interleave.specs.Own.{own_part, object_number, thread_number}
use Rattle.interleave.specs.World.{World, Common, Member, member_at, may_move, moved, told, with_told, with_child}

abbrev pub check_of : Class → ℕ → ℕ → ℕ → Check
check_of class line function t = record { class = class; line = line; function = function; thread = t }

abbrev pub settled : World → ℕ → List ℕ → Member → Action → ℕ → ℕ → Outcome → Turn × World
settled w t words m action line function (breaks class) = (turned.Broken (check_of class line function t), w)
settled w t words m action line function waits = (turned.Nothing, w)
settled w t words m action line function (moves answer change) =
    (turned.Moved, record { common = moved w.common t action change; members = with_child m change (with_told w.members t (told m words action answer)) })

-- what comes of an action in this state
abbrev pub outcome : Common → ℕ → List ℕ → Counts → Action → Outcome
outcome c t words counts action = outcome_in c.memory (row t (own_part t words counts action) action)

abbrev pub with_next : World → ℕ → List ℕ → Member → Next → Turn × World
with_next w t words m (next.Act action line function) = settled w t words m action line function (outcome w.common t words m.counts action)
with_next w t words m (next.Ended v) = (turned.Nothing, w)
with_next w t words m next.Blocked = (turned.Nothing, w)
with_next w t words m (next.Broken class line function) = (turned.Broken (check_of class line function t), w)

abbrev pub with_member : World → ℕ → List ℕ → Option Member → Turn × World
with_member w t words None = (turned.Nothing, w)
with_member w t words (Some m) = with_next w t words m (m.thread.behaves [])

abbrev pub turn : World → ℕ → InputLists → Turn × World
turn w t inputs = if may_move w.common t then with_member w t (words_of inputs t) (member_at w.members t) else (turned.Nothing, w)

-- ---- what a turn asks of numbers: a Create gets an unused one below 65,536, an Alloc an unused one below 2 ^ 32

abbrev pub HasNumber : Memory → ℕ → Counts → Action → Type 0
HasNumber memory t counts (Alloc o) = (object_number t (counts.objects + 1) < 2 ^ 32) × (object_at memory.objects (object_number t (counts.objects + 1)) ≡ None)
HasNumber memory t counts (Create f v) = (thread_number t (counts.creations + 1) < 65536) × (thread_at memory.threads (thread_number t (counts.creations + 1)) ≡ None)
HasNumber memory t counts _ = Unit {0}

abbrev pub NextHasNumber : Memory → ℕ → Counts → Next → Type 0
NextHasNumber memory t counts (next.Act action line function) = HasNumber memory t counts action
NextHasNumber memory t counts _ = Unit {0}

abbrev pub MemberHasNumber : Memory → ℕ → Option Member → Type 0
MemberHasNumber memory t None = Unit {0}
MemberHasNumber memory t (Some m) = NextHasNumber memory t m.counts (m.thread.behaves [])

abbrev pub HasNumbers : World → ℕ → Type 0
HasNumbers w t = MemberHasNumber w.common.memory t (member_at w.members t)
