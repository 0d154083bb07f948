-- How a search goes on.
use Rattle.std.specs.Prelude.{◌≡◌, ℕ, ◌≤◌, Bool, length, Some}
use Rattle.sat_form.specs.Satisfaction.{Literal}
use Rattle.cdcl_core.specs.Steps.{Course, known_truth, oldest, decision_places}

-- a search has gone on: it may have added steps that are no decisions
pub record GoesOn (old new : Course) : Type 0 where
  pub variables : new.variables ≡ old.variables
  pub longer : length old.steps ≤ length new.steps
  pub oldest : (k : ℕ) → k ≤ length old.steps → oldest k new.steps ≡ oldest k old.steps
  pub kept : (l : Literal) (b : Bool) → known_truth old.steps l ≡ Some b → known_truth new.steps l ≡ Some b
  pub places : decision_places new.steps ≡ decision_places old.steps
