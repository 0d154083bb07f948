-- What a clause says beside one of its literals.
use Rattle.std.specs.Prelude.{◌≡◌, ◌≢◌, ℕ, ◌<◌, ◌≤◌, true, false, List, Contains, Some, None, slice_get}
use Rattle.sat_form.specs.Satisfaction.{Literal}
use Rattle.cdcl_core.specs.declared.trail.Step.{Step}
use Rattle.cdcl_core.specs.declared.propagation.Reading.{Reading}
use Rattle.cdcl_core.specs.declared.propagation.Reading.TheVariants.{True, Open, Single, False}
use Rattle.cdcl_core.specs.Steps.{known_truth}
use Rattle.cdcl_core.specs.Watched.{IsNotFalse, AreFalseBeside}

-- what the clause says beside the literal
abbrev pub IsReading : List Step → List Literal → Literal → Reading → Type 0
IsReading steps clause l True = known_truth steps l ≡ Some true
IsReading steps clause l (Open m _) = Contains clause m × (m ≢ l) × IsNotFalse steps m × (known_truth steps l ≢ Some true)
IsReading steps clause l Single = (known_truth steps l ≡ None) × AreFalseBeside steps clause l
IsReading steps clause l False = (known_truth steps l ≡ Some false) × AreFalseBeside steps clause l

-- the steps make each literal of the clause from one place to before another false, but this one
abbrev pub AreFalseBetween : List Step → List Literal → Literal → ℕ → ℕ → Type 0
AreFalseBetween steps clause l from to = (k : ℕ) (m : Literal) → from ≤ k → k < to → slice_get clause k ≡ Some m → m ≢ l → known_truth steps m ≡ Some false
