-- The steps of a search for a model, the newest first, and what they say of the assignments that agree with them.
use Rattle.std.specs.Prelude.{◌≡◌, ℕ, suc, ◌<◌, Bool, true, not, List, [], ◌∷◌, ◌++◌, length, Option, Some, None, nat_eq, nat_lt, if◌then◌else◌, option_map}
use Rattle.sat_form.specs.Satisfaction.{Literal}
use Rattle.cdcl_core.specs.declared.trail.Step.{Step}

-- where a search stands: how many variables the form has, and the steps
pub record Course : Type 0 where
  pub variables : ℕ
  pub steps : List Step

-- the value that the newest step on a variable gives it
abbrev pub known_value : List Step → ℕ → Option Bool
known_value [] v = None
known_value (s ∷ older) v = if nat_eq s.literal.variable v then Some (not s.literal.negated) else known_value older v

-- the place, the oldest at 0, of the newest step on a variable
abbrev pub known_place : List Step → ℕ → Option ℕ
known_place [] v = None
known_place (s ∷ older) v = if nat_eq s.literal.variable v then Some (length older) else known_place older v

-- whether a literal is true, where the steps tell
abbrev pub known_truth : List Step → Literal → Option Bool
known_truth steps l = option_map (λ b. if l.negated then not b else b) (known_value steps l.variable)

-- the literal of a variable that is false, where the steps tell
abbrev pub false_literal_of : List Step → ℕ → Option Literal
false_literal_of steps v = option_map (λ b. record { variable = v; negated = b }) (known_value steps v)

-- the oldest steps, as many as k
abbrev pub oldest : ℕ → List Step → List Step
oldest k [] = []
oldest k (s ∷ older) = if nat_lt (length older) k then s ∷ older else oldest k older

-- the step at this place, the oldest at 0, is a decision
abbrev pub HasDecisionAt : ℕ → List Step → Type 0
HasDecisionAt place steps = (s : Step) × (s.decision ≡ true) × (oldest (suc place) steps ≡ s ∷ oldest place steps)

-- each step is on a variable below n on which no older step is
abbrev pub AreFresh : ℕ → List Step → Type 0
AreFresh n [] = Unit {0}
AreFresh n (s ∷ older) = (s.literal.variable < n) × (known_value older s.literal.variable ≡ None) × AreFresh n older

-- the places of the decisions, the oldest first
abbrev pub decision_places : List Step → List ℕ
decision_places [] = []
decision_places (s ∷ older) = if s.decision then decision_places older ++ length older ∷ [] else decision_places older
