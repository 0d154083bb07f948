-- The state of a run: what the threads share, and each thread with its own record.
use Rattle.std.specs.Prelude.{ℕ, Bool, true, false, not, ◌&&◌, ◌==◌, List, [], ◌∷◌, length, Option, Some, None}
use Rattle.std.specs.Ordering.{nat_cmp}
use Rattle.std.specs.Map.{lookup, set_value}
use Rattle.std.specs.BTreeMap.{is_at, insert_entry}
use Rattle.actions.specs.declared.action.Action.{Action}
use Rattle.actions.specs.declared.action.Answer.{Answer}
use Rattle.actions.specs.declared.thread_state.ThreadState.{ThreadState}
use Rattle.actions.specs.declared.thread_state.ThreadState.TheVariants.{Running, Ended}
use Rattle.actions.specs.Objects.{Objects}
use Rattle.actions.specs.Behaviour.{Thread, started, answered}
use Rattle.actions.specs.Memory.{Memory, thread_at, Change, starts, changed}
use Rattle.actions.specs.Row.{Outcome, breaks, waits, moves}
use Rattle.actions.specs.Table.{Mode, plain, opens, closes, exits, mode_of}
use Rattle.interleave.specs.declared.counts.Counts.{Counts}
use Rattle.interleave.specs.Own.{counted}

-- the memory, the thread that is in a section, and whether the process has ended
pub record Common : Type 0 where
  pub memory : Memory
  pub section : Option ℕ
  pub ended : Bool

pub record Member : Type 0 where
  pub thread : Thread
  pub counts : Counts

pub record World : Type 0 where
  pub common : Common
  pub members : List (ℕ × Member)

abbrev pub member_at : List (ℕ × Member) → ℕ → Option Member
member_at members t = lookup (is_at (nat_cmp t)) members

-- ---- the start of a run: thread 0 alone, on a first store, whose objects count as its own

abbrev pub no_counts : Counts
no_counts = record { creations = 0; objects = 0; used = 0 }

abbrev pub first_common : Objects → Common
first_common objects = record { memory = record { objects = objects; threads = (0, Running) ∷ [] }; section = None; ended = false }

abbrev pub first_world : Thread → Objects → World
first_world thread objects = record {
  common = first_common objects;
  members = (0, record { thread = thread; counts = record no_counts { objects = length objects } }) ∷ [];
}

-- ---- who may move

-- thread t isn't kept from moving: the process goes on, no other thread is in a section, and t hasn't ended
abbrev pub is_free_for : ℕ → Option ℕ → Bool
is_free_for t None = true
is_free_for t (Some owner) = owner == t

abbrev pub is_running : Option ThreadState → Bool
is_running (Some Running) = true
is_running (Some (Ended v)) = false
is_running None = false

abbrev pub may_move : Common → ℕ → Bool
may_move c t = not c.ended && (is_free_for t c.section && is_running (thread_at c.memory.threads t))

-- ---- what an action leaves

abbrev pub section_after : Mode → ℕ → Option ℕ → Option ℕ
section_after plain t section = section
section_after opens t section = Some t
section_after closes t section = None
section_after exits t section = section

abbrev pub ended_after : Mode → Bool → Bool
ended_after exits ended = true
ended_after _ ended = ended

abbrev pub moved : Common → ℕ → Action → Change → Common
moved c t action change = record {
  memory = changed c.memory change;
  section = section_after (mode_of action) t c.section;
  ended = ended_after (mode_of action) c.ended;
}

-- an action that breaks or waits changes nothing
abbrev pub common_after : Common → ℕ → Action → Outcome → Common
common_after c t action (breaks class) = c
common_after c t action waits = c
common_after c t action (moves answer change) = moved c t action change

-- the thread after its answer
abbrev pub told : Member → List ℕ → Action → Answer → Member
told m words action a = record { thread = answered m.thread a; counts = counted words m.counts action }

abbrev pub with_told : List (ℕ × Member) → ℕ → Member → List (ℕ × Member)
with_told members t m = set_value (is_at (nat_cmp t)) members m

-- a thread of the same program, at its start
abbrev pub child : Member → ℕ → ℕ → Member
child m f v = record { thread = started m.thread f v; counts = no_counts }

abbrev pub with_child : Member → Change → List (ℕ × Member) → List (ℕ × Member)
with_child m (starts number f v) members = insert_entry nat_cmp members number (child m f v)
with_child m _ members = members
