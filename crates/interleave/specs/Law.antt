-- The law of systems: threads with the same local runs, and with programs whose threads have them, give the same answers to each turn of each schedule and the same runs.
use Rattle.std.specs.Prelude.{◌≡◌, ℕ, List}
use Rattle.actions.specs.Behaviour.{Thread, IsThread}
use Rattle.actions.specs.LocalRun.{SameThreads}
use Rattle.actions.specs.Objects.{Objects}
use Rattle.interleave.specs.Inputs.{InputLists}
use Rattle.interleave.specs.World.{first_world}
use Rattle.interleave.specs.Run.{run, answers}

-- two threads, each as thread 0 on a first store, with these inputs and this schedule
pub record SameRun (t u : Thread) (objects : Objects) (inputs : InputLists) (schedule : List ℕ) : Type 0 where
  pub turns : answers (first_world t objects) inputs schedule ≡ answers (first_world u objects) inputs schedule
  pub ends : (run (first_world t objects) inputs schedule).0 ≡ (run (first_world u objects) inputs schedule).0
  pub common : (run (first_world t objects) inputs schedule).1.common ≡ (run (first_world u objects) inputs schedule).1.common

abbrev pub SameSystems : Thread → Thread → Type 0
SameSystems t u = (objects : Objects) (inputs : InputLists) (schedule : List ℕ) → SameRun t u objects inputs schedule

abbrev pub Law : Type 0
Law = (t u : Thread) → IsThread t → IsThread u → SameThreads t u → SameSystems t u
