-- Schedules of small scripts with the candidates of their runs: which turns are its events, their clocks, and how the run ends.
use Rattle.std.specs.Prelude.{◌≡◌, ℕ, true, false, List, [], ◌∷◌, length, map}
use Rattle.words.specs.declared.check.Class.TheVariants.{Assertion}
use Rattle.actions.specs.StoredObject.{stored}
use Rattle.actions.specs.Objects.{Objects}
use Rattle.actions.specs.Behaviour.{Thread}
use Rattle.interleave.specs.declared.script.Step.{Step}
use Rattle.interleave.specs.declared.script.Step.TheVariants as step
use Rattle.interleave.specs.declared.turn.Outcome.{Outcome}
use Rattle.interleave.specs.declared.turn.Outcome.TheVariants as ending
use Rattle.interleave.specs.Script.{thread_of, start_at}
use Rattle.interleave.specs.World.{first_world}
use Rattle.interleave.specs.Turn.{check_of}
use Rattle.interleave.specs.Run.{run}
use Rattle.weave.specs.Order.{acting}
use Rattle.weave.specs.RunCandidate.{from, clock_at}

pub record Row : Type 0 where
  pub steps : List Step
  pub schedule : List ℕ
  pub turns : List ℕ
  pub clocks : List ℕ
  pub ends : Outcome

-- object 1 is shared: a byte at 0 and a mutex at 4
abbrev pub shared : Objects
shared = (1, stored 8 (record { offset = 0; size = 1 } ∷ record { offset = 4; size = 4 } ∷ []) true false false (0 ∷ 0 ∷ 0 ∷ 0 ∷ 0 ∷ 0 ∷ 0 ∷ 0 ∷ [])) ∷ []

abbrev pub shared_byte : ℕ
shared_byte = 4294967296

abbrev pub mutex : ℕ
mutex = 4294967300

abbrev pub main_of : List Step → Thread
main_of steps = thread_of steps (start_at 0)

abbrev pub IsRow : Row → Type 0
IsRow r =
    (acting (first_world (main_of r.steps) shared) [] r.schedule ≡ r.turns)
    × (map (clock_at (main_of r.steps) shared [] r.turns) (from 0 (length r.turns)) ≡ r.clocks)
    × ((run (first_world (main_of r.steps) shared) [] r.schedule).0 ≡ r.ends)

abbrev pub AreRows : List Row → Type 0
AreRows [] = Unit {0}
AreRows (r ∷ rs) = IsRow r × AreRows rs

-- main starts two threads at step 7, joins both and wants 2 in the byte
abbrev pub counting : List Step → List Step
counting body = step.Create 7 ∷ step.Create 7 ∷ step.Join 1 ∷ step.Join 2 ∷ step.Read shared_byte ∷ step.Assert 2 ∷ step.Exit ∷ body

abbrev pub lost_update : Row
lost_update = record {
  steps = counting (step.Read shared_byte ∷ step.Write shared_byte ∷ step.End 0 ∷ []);
  schedule = 0 ∷ 0 ∷ 1 ∷ 2 ∷ 1 ∷ 2 ∷ 1 ∷ 2 ∷ 0 ∷ 0 ∷ 0 ∷ 0 ∷ 0 ∷ [];
  turns = 0 ∷ 0 ∷ 1 ∷ 2 ∷ 1 ∷ 2 ∷ 1 ∷ 2 ∷ 0 ∷ 0 ∷ 0 ∷ 0 ∷ [];
  clocks = 0 ∷ 1 ∷ 2 ∷ 3 ∷ 4 ∷ 5 ∷ 6 ∷ 7 ∷ 8 ∷ 9 ∷ 10 ∷ 11 ∷ [];
  ends = ending.Broken (check_of Assertion 1 0 0);
}

-- thread 2 waits for the mutex that thread 1 holds: a turn that waits is no event
abbrev pub lock_waits : Row
lock_waits = record {
  steps = counting (step.Lock mutex ∷ step.Read shared_byte ∷ step.Write shared_byte ∷ step.Unlock mutex ∷ step.End 0 ∷ []);
  schedule = 0 ∷ 0 ∷ 1 ∷ 2 ∷ 1 ∷ 2 ∷ 1 ∷ 2 ∷ 1 ∷ 2 ∷ 2 ∷ 2 ∷ 2 ∷ 2 ∷ 1 ∷ 0 ∷ 0 ∷ 0 ∷ 0 ∷ 0 ∷ [];
  turns = 0 ∷ 0 ∷ 1 ∷ 1 ∷ 1 ∷ 1 ∷ 2 ∷ 2 ∷ 2 ∷ 2 ∷ 2 ∷ 1 ∷ 0 ∷ 0 ∷ 0 ∷ 0 ∷ 0 ∷ [];
  clocks = 0 ∷ 1 ∷ 2 ∷ 3 ∷ 4 ∷ 5 ∷ 6 ∷ 7 ∷ 8 ∷ 9 ∷ 10 ∷ 11 ∷ 12 ∷ 13 ∷ 14 ∷ 15 ∷ 16 ∷ [];
  ends = ending.Fine;
}

-- nobody moves while thread 1 is in its section, and a section has one clock
abbrev pub section : Row
section = record {
  steps = counting (step.SectionBegin ∷ step.Read shared_byte ∷ step.Write shared_byte ∷ step.SectionEnd ∷ step.End 0 ∷ []);
  schedule = 0 ∷ 0 ∷ 1 ∷ 2 ∷ 0 ∷ 1 ∷ 2 ∷ 1 ∷ 0 ∷ 1 ∷ 2 ∷ 2 ∷ 2 ∷ 2 ∷ 2 ∷ 1 ∷ 0 ∷ 0 ∷ 0 ∷ 0 ∷ 0 ∷ [];
  turns = 0 ∷ 0 ∷ 1 ∷ 1 ∷ 1 ∷ 1 ∷ 2 ∷ 2 ∷ 2 ∷ 2 ∷ 2 ∷ 1 ∷ 0 ∷ 0 ∷ 0 ∷ 0 ∷ 0 ∷ [];
  clocks = 0 ∷ 1 ∷ 2 ∷ 2 ∷ 2 ∷ 2 ∷ 6 ∷ 6 ∷ 6 ∷ 6 ∷ 10 ∷ 11 ∷ 12 ∷ 13 ∷ 14 ∷ 15 ∷ 16 ∷ [];
  ends = ending.Fine;
}

-- stopped with thread 1 in its section
abbrev pub open_section : Row
open_section = record {
  steps = counting (step.SectionBegin ∷ step.Read shared_byte ∷ step.Write shared_byte ∷ step.SectionEnd ∷ step.End 0 ∷ []);
  schedule = 0 ∷ 0 ∷ 1 ∷ 2 ∷ 1 ∷ 0 ∷ [];
  turns = 0 ∷ 0 ∷ 1 ∷ 1 ∷ [];
  clocks = 0 ∷ 1 ∷ 2 ∷ 2 ∷ [];
  ends = ending.Fine;
}

-- an exit of one thread ends the process
abbrev pub exit : Row
exit = record {
  steps = step.Create 2 ∷ step.Exit ∷ step.Read shared_byte ∷ step.Exit ∷ [];
  schedule = 0 ∷ 1 ∷ 1 ∷ 0 ∷ 1 ∷ [];
  turns = 0 ∷ 1 ∷ 1 ∷ [];
  clocks = 0 ∷ 1 ∷ 2 ∷ [];
  ends = ending.Fine;
}

-- main waits for thread 1; a thread that has ended moves no more, and a second join of it returns at once
abbrev pub join : Row
join = record {
  steps = step.Create 4 ∷ step.Join 1 ∷ step.Join 1 ∷ step.Exit ∷ step.End 5 ∷ [];
  schedule = 0 ∷ 0 ∷ 1 ∷ 1 ∷ 0 ∷ 0 ∷ 0 ∷ [];
  turns = 0 ∷ 1 ∷ 0 ∷ 0 ∷ 0 ∷ [];
  clocks = 0 ∷ 1 ∷ 2 ∷ 3 ∷ 4 ∷ [];
  ends = ending.Fine;
}

-- threads that aren't there make no events
abbrev pub nobody : Row
nobody = record {
  steps = counting (step.Read shared_byte ∷ step.Write shared_byte ∷ step.End 0 ∷ []);
  schedule = 1 ∷ 2 ∷ 65536 ∷ 0 ∷ [];
  turns = 0 ∷ [];
  clocks = 0 ∷ [];
  ends = ending.Fine;
}

abbrev pub table : List Row
table = lost_update ∷ lock_waits ∷ section ∷ open_section ∷ exit ∷ join ∷ nobody ∷ []
