-- When the steps of a search have reasons, and when they leave nothing to propagate.
use Rattle.std.specs.Prelude.{◌≡◌, ◌≢◌, ℕ, ◌⊎◌, true, false, List, [], ◌∷◌, Contains, Some, None, IsSomeAnd, slice_get}
use Rattle.sat_form.specs.Satisfaction.{Literal}
use Rattle.cdcl_core.specs.declared.trail.Step.{Step}
use Rattle.cdcl_core.specs.Steps.{known_truth}

-- the steps make a literal of the clause true, or leave two different ones without a value
abbrev pub IsAtRest : List Step → List Literal → Type 0
IsAtRest steps clause =
    ((l : Literal) × Contains clause l × (known_truth steps l ≡ Some true))
    ⊎ ((l : Literal) × (m : Literal) × (l ≢ m)
    × Contains clause l × (known_truth steps l ≡ None) × Contains clause m × (known_truth steps m ≡ None))

-- the steps leave nothing to propagate, and no clause is false
abbrev pub IsSettled : List (List Literal) → List Step → Type 0
IsSettled clauses steps = (c : List Literal) → Contains clauses c → IsAtRest steps c

-- the steps before each decision are settled
abbrev pub AreSettled : List (List Literal) → List Step → Type 0
AreSettled clauses [] = Unit {0}
AreSettled clauses (s ∷ older) = (s.decision ≡ true → IsSettled clauses older) × AreSettled clauses older

-- each literal of the clause is false
abbrev pub AreFalse : List Step → List Literal → Type 0
AreFalse steps clause = (m : Literal) → Contains clause m → known_truth steps m ≡ Some false

-- the clause of this number leaves the literal alone: it stands there, and each other one is false
pub record IsReason (clauses : List (List Literal)) (steps : List Step) (l : Literal) (number : ℕ) : Type 0 where
  pub clause : List Literal
  pub found : slice_get clauses number ≡ Some clause
  pub stands : Contains clause l
  pub others : (m : Literal) → Contains clause m → m ≢ l → known_truth steps m ≡ Some false

-- each step that is no decision has a clause that leaves its literal alone where the older steps hold
abbrev pub AreJustified : List (List Literal) → List Step → Type 0
AreJustified clauses [] = Unit {0}
AreJustified clauses (s ∷ older) =
    (s.decision ≡ false → IsSomeAnd s.reason (IsReason clauses older s.literal)) × AreJustified clauses older
