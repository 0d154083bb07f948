-- What a goal says of the runs from a state. It names no formula: those of one thread and of many threads meet it in the same words.
use Rattle.std.specs.Prelude.{◌≡◌, ℕ, List, Some}
use Rattle.words.specs.declared.check.Check.{Check}
use Rattle.word_dag.specs.declared.nodes.Id.{Id}
use Rattle.word_dag.specs.declared.nodes.Node.{Node}
use Rattle.word_dag.specs.Meaning.{value}
use Rattle.interleave.specs.declared.turn.Outcome.TheVariants.{Broken}
use Rattle.interleave.specs.Inputs.{InputLists}
use Rattle.interleave.specs.World.{World}
use Rattle.interleave.specs.Run.{run}
use Rattle.interleave.specs.Replay.{Replays}
use Rattle.event_forms.specs.Happenings.{Happening, happened, schedule_in, AreDrawn, check_in}

-- This is all that happens in a run from w, whose last turn breaks the check and whose inputs are exactly the words drawn. There are such inputs.
pub record Happens (w : World) (told : List Happening) (check : Check) : Type 0 where
  pub check_is : check_in told ≡ Some check
  pub inputs : InputLists
  pub drawn : AreDrawn inputs told
  pub replays : (own : InputLists) → AreDrawn own told → Replays w own (schedule_in told) check
  pub same : (own : InputLists) → AreDrawn own told → happened w own (schedule_in told) ≡ told

-- `told` reads off a valuation of the variables what happens in its run. Where the goal is true, that is a run from w, which breaks a check. And each run from w that breaks a check is the run of a valuation that makes the goal true.
pub record IsGoal (w : World) (d : List Node) (goal : Id) (told : (ℕ → ℕ) → List Happening) : Type 0 where
  pub replays : (v : ℕ → ℕ) → value v d goal ≡ 1 → (check : Check) × Happens w (told v) check
  pub given : (inputs : InputLists) (schedule : List ℕ) (check : Check) → (run w inputs schedule).0 ≡ Broken check
      → (v : ℕ → ℕ) × (value v d goal ≡ 1) × (told v ≡ happened w inputs schedule) × (check_in (told v) ≡ Some check)
