-- Each run of bounded threads, on any inputs and by any schedule, is told by one valuation of their forms.
use Rattle.std.specs.Prelude.{◌≡◌, ℕ, List, length, Bool}
use Rattle.words.specs.declared.check.Check.{Check}
use Rattle.actions.specs.Behaviour.{Thread}
use Rattle.actions.specs.Objects.{Objects}
use Rattle.interleave.specs.declared.turn.Outcome.TheVariants as ending
use Rattle.interleave.specs.Inputs.{InputLists}
use Rattle.interleave.specs.World.{first_world}
use Rattle.interleave.specs.Run.{run}
use Rattle.weave.specs.Candidate.{Candidate}
use Rattle.weave.specs.Consistent.{IsConsistent}
use Rattle.weave.specs.Order.{Breaks, acting}
use Rattle.weave.specs.RunCandidate.{from, candidate_of_run}
use Rattle.weave.specs.Family.{IsFamily, AreWhole}
use Rattle.weave.specs.Laws.{IsOfRun}
use Rattle.thread_forms.specs.Forms.{Valuation, Name, Forms, AreForms}
use Rattle.thread_forms.specs.Valued.{Marks, candidate, IsTaken}
use Rattle.thread_forms.specs.Runs.{AreFit, HasValuation}
use Rattle.thread_forms.specs.Order.{IsOrder, HasGoal}
use Rattle.thread_forms.specs.Bounds.{IsBounded}

-- in a consistent candidate of bounded threads each answer has the shape that its action asks for
abbrev pub CandidatesAreFit : Type 0 → Type 0
CandidatesAreFit Id = (t : Thread) (objects : Objects) (d : Candidate Id) → IsFamily t → AreWhole objects → IsBounded t objects → IsConsistent d t objects → AreFit d

module _ (t : Thread) (objects : Objects) (inputs : InputLists) (schedule : List ℕ) where
  abbrev pub turns : List ℕ
  turns = acting (first_world t objects) inputs schedule

  -- the candidate of a run
  abbrev pub run_candidate : Candidate ℕ
  run_candidate = candidate_of_run t objects inputs turns

  -- a valuation with marks that meet the conditions tells the run's candidate, event for event; where the run breaks a check, an event of the valuation breaks it
  pub record IsTold (F : Forms) : Type 0 where
    pub is_run : IsOfRun run_candidate (from 0 (length turns)) t objects inputs schedule
    pub told : HasValuation run_candidate objects F
    pub breaks : (check : Check) → (run (first_world t objects) inputs schedule).0 ≡ ending.Broken check
        → (x : Name) × IsTaken F told.valuation told.marks x × Breaks (candidate F told.valuation told.marks) x check

abbrev pub RunsAreTold : Type 0
RunsAreTold =
    (t : Thread) (objects : Objects) (inputs : InputLists) (schedule : List ℕ) (F : Forms) → IsFamily t → AreWhole objects → IsBounded t objects → AreForms t F → IsTold t objects inputs schedule F

-- where a run breaks a check, the formula is true for a valuation that takes the run's turns
abbrev pub RunsHaveGoals : Type 0
RunsHaveGoals =
    (t : Thread) (objects : Objects) (inputs : InputLists) (schedule : List ℕ) (F : Forms) (goal : Valuation → Bool) (marks : Valuation → Marks) → IsFamily t → AreWhole objects → IsBounded t objects → AreForms t F
    → IsOrder F objects goal marks → (check : Check) → (run (first_world t objects) inputs schedule).0 ≡ ending.Broken check → HasGoal (run_candidate t objects inputs schedule) F goal marks
