-- A `System` as the state of a run.
use Rattle.std.specs.Prelude.{◌≡◌, ℕ, Bool, true, List, [], map, Option, Some, None, option_map, IfSome}
use Rattle.std.specs.Ordering.{nat_cmp}
use Rattle.std.specs.BTreeMap.{insert_entry}
use Rattle.actions.specs.declared.action.Action.{Action}
use Rattle.actions.specs.declared.action.Action.TheVariants.{Create}
use Rattle.actions.specs.declared.action.Answer.{Answer}
use Rattle.actions.specs.declared.action.Answer.TheVariants as answer
use Rattle.actions.specs.declared.action.Next.TheVariants.{Act}
use Rattle.actions.specs.declared.action.Next.{Next}
use Rattle.actions.specs.Behaviour.{Thread, answered, accepts}
use Rattle.interleave.specs.declared.counts.Counts.{Counts}
use Rattle.interleave.specs.declared.runner.Runner.{Runner}
use Rattle.interleave.specs.declared.system.System.{System}
use Rattle.interleave.specs.World.{World, Member, member_at, with_told, child}

module _ {M : Type 0} (thread : M → Thread) where
  abbrev pub member_of : Runner M → Member
  member_of r = record { thread = thread r.machine; counts = r.counts }

  abbrev pub members_of : List (ℕ × Runner M) → List (ℕ × Member)
  members_of runners = map (λ (e : ℕ × Runner M). (e.0, member_of e.1)) runners

  abbrev pub world_of : System M → World
  world_of system = record { common = system.shared; members = members_of system.runners.entries }

-- what thread t does next, if it is there
abbrev pub next_at : List (ℕ × Member) → ℕ → Option Next
next_at members t = option_map (λ (m : Member). m.thread.behaves []) (member_at members t)

-- the thread after this answer, with this record
abbrev pub told_as : Member → Answer → Counts → Member
told_as m a counts = record { thread = answered m.thread a; counts = counts }

abbrev pub told_at : List (ℕ × Member) → ℕ → Answer → Counts → Option Member → List (ℕ × Member)
told_at members t a counts None = members
told_at members t a counts (Some m) = with_told members t (told_as m a counts)

-- and with a thread that it started
abbrev pub started_at : List (ℕ × Member) → ℕ → ℕ → ℕ → ℕ → Counts → Option Member → List (ℕ × Member)
started_at members t number f v counts None = members
started_at members t number f v counts (Some m) = insert_entry nat_cmp (with_told members t (told_as m (answer.Number number) counts)) number (child m f v)

abbrev pub AcceptsAt : List (ℕ × Member) → ℕ → Answer → Type 0
AcceptsAt members t a = IfSome (next_at members t) (λ n. accepts n a ≡ true)

-- the next action is this Create
abbrev pub IsCreate : Next → ℕ → ℕ → Type 0
IsCreate (Act action line function) f v = action ≡ Create f v
IsCreate _ f v = ⊥

-- this action is next
abbrev pub IsAction : Next → Action → Type 0
IsAction (Act here line function) action = here ≡ action
IsAction _ action = ⊥

abbrev pub IsNextAction : Option Next → Action → Type 0
IsNextAction next action = IfSome next (λ n. IsAction n action)

abbrev pub CreatesAt : List (ℕ × Member) → ℕ → ℕ → ℕ → Type 0
CreatesAt members t f v = IfSome (next_at members t) (λ n. IsCreate n f v)

-- once a turn found no memory, each later one finds none
abbrev pub is_dead : {M : Type 0} → System M → Bool
is_dead system = system.dead
