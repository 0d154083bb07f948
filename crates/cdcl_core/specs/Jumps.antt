-- Where a search goes back to.
use Rattle.std.specs.Prelude.{◌≡◌, ◌≢◌, ℕ, ◌<◌, ◌≤◌, false, List, Contains, Some, length, slice_index}
use Rattle.sat_form.specs.Satisfaction.{Literal}
use Rattle.cdcl_core.specs.declared.trail.Step.{Step}
use Rattle.cdcl_core.specs.Steps.{known_truth, oldest}
use Rattle.cdcl_core.specs.Watched.{IsNotFalse}

-- the oldest `kept` steps make each literal of the clause false but this one, and fewer do not make `beside` false, another one of
-- them; without one, `kept` is 0 and `beside` the literal itself
pub record IsNewest (steps : List Step) (clause : List Literal) (l beside : Literal) (kept : ℕ) : Type 0 where
  pub others : (m : Literal) → Contains clause m → m ≢ l → known_truth (oldest kept steps) m ≡ Some false
  pub stands : beside ≢ l → Contains clause beside
  pub apart : (k : ℕ) → k < kept → beside ≢ l
  pub open_ : (k : ℕ) → k < kept → IsNotFalse (oldest k steps) beside

-- the index of the first of the places that is at least `kept`
pub record IsFirstFrom (places : List ℕ) (kept index : ℕ) : Type 0 where
  pub within : index < length places
  pub from : kept ≤ slice_index places index
  pub before : (j : ℕ) → j < index → slice_index places j < kept
