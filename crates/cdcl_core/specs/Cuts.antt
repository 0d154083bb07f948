-- What is known of a conflict while it is traced back through the steps of a search.
use Rattle.std.specs.Prelude.{◌≡◌, ◌≢◌, ℕ, suc, ◌<◌, ◌≤◌, ◌⊎◌, Bool, true, false, List, [], ◌∷◌, Some, eqb, length, map, Contains, slice_index_or}
use Rattle.std.specs.List.{IsDistinct}
use Rattle.sat_form.specs.Satisfaction.{Literal}
use Rattle.sat_form.specs.Budget.{IsConflictBy, AreUsed, StandsIn}
use Rattle.cdcl_core.specs.declared.trail.Step.{Step}
use Rattle.cdcl_core.specs.declared.analysis.Analysis.{Analysis}
use Rattle.cdcl_core.specs.Steps.{known_place, known_truth, oldest}
use Rattle.cdcl_core.specs.Learning.{IsLast, clauses_at}

-- the variable is marked
abbrev pub IsOn : List Bool → ℕ → Type 0
IsOn marked v = slice_index_or marked v false ≡ true

-- the variable is marked, and has its value from the step at this place
abbrev pub IsOnAt : List Step → List Bool → ℕ → ℕ → Type 0
IsOnAt steps marked v place = IsOn marked v × (known_place steps v ≡ Some place)

-- the variable is that of one of the clause's literals, and has its value from one of the oldest `count` steps
pub record IsFrom (steps : List Step) (clause : List Literal) (count v : ℕ) : Type 0 where
  pub literal : Literal
  pub stands : Contains clause literal
  pub same : literal.variable ≡ v
  pub place : ℕ
  pub found : known_place steps v ≡ Some place
  pub before : place < count

-- the variables of the clause's literals that have values from the oldest `count` steps are marked too, and no more
pub record MarksClause (steps : List Step) (clause : List Literal) (count : ℕ) (old new : List Bool) : Type 0 where
  pub size : length new ≡ length old
  pub kept : (v : ℕ) → IsOn old v → IsOn new v
  pub added : (l : Literal) (place : ℕ) → Contains clause l → known_place steps l.variable ≡ Some place → place < count → IsOn new l.variable
  pub only : (v : ℕ) → IsOn new v → IsOn old v ⊎ IsFrom steps clause count v

-- the literals have the true literal of each marked variable
abbrev pub Covers : List Step → List Bool → List Literal → Type 0
Covers steps marked held = (l : Literal) → IsOn marked l.variable → known_truth steps l ≡ Some true → Contains held l

-- no literal of one list is on the variable of one of the other
abbrev pub AreApart : List Literal → List Literal → Type 0
AreApart held given = (h g : Literal) → Contains held h → Contains given g → h.variable ≢ g.variable

-- the variable isn't marked, and has its value from a step at this place or later
pub record IsResolved (steps : List Step) (count : ℕ) (marked : List Bool) (v : ℕ) : Type 0 where
  pub place : ℕ
  pub found : known_place steps v ≡ Some place
  pub later : count ≤ place
  pub off : IsOn marked v → ⊥

-- the false literal of the variable stands in one of the clauses
pub record StandsFalse (steps : List Step) (clauses : List (List Literal)) (v : ℕ) : Type 0 where
  pub literal : Literal
  pub same : literal.variable ≡ v
  pub is_false : known_truth steps literal ≡ Some false
  pub stands : StandsIn clauses literal

-- a cut through what led to a conflict: where the marked variables have their values, the clauses of these numbers come to
-- a conflict, each with a literal of a step from `count` on
pub record IsCut (clauses : List (List Literal)) (steps : List Step) (count : ℕ) (marked : List Bool) (numbers : List ℕ) : Type 0 where
  pub given : List Literal
  pub conflict : (held : List Literal) → Covers steps marked held → AreApart held given → IsConflictBy held (clauses_at clauses numbers) given
  pub used : AreUsed (clauses_at clauses numbers) given
  pub resolved : (g : Literal) → Contains given g → IsResolved steps count marked g.variable
  pub stands : (v : ℕ) → IsOn marked v → StandsFalse steps (clauses_at clauses numbers) v

-- the decisions are at places from `first` to `newest`
abbrev pub AreBetween : List Step → ℕ → ℕ → Type 0
AreBetween steps first newest = (place : ℕ) (s : Step) → oldest (suc place) steps ≡ s ∷ oldest place steps → s.decision ≡ true → (first ≤ place) × (place ≤ newest)

-- these are the first and the last of the places, or both are `count` where there are none
abbrev pub AreEnds : List ℕ → ℕ → ℕ → ℕ → Type 0
AreEnds [] count first newest = (first ≡ count) × (newest ≡ count)
AreEnds (p ∷ ps) count first newest = (first ≡ p) × IsLast (p ∷ ps) newest

-- where the marked steps lie: the newest level's from `low` to before `high`, and those before the first decision from
-- `bottom` to before `top`
pub record IsReached (steps : List Step) (a : Analysis) : Type 0 where
  pub decisions : AreBetween steps a.first a.newest
  pub top : a.top ≤ a.first
  pub first : a.first ≤ a.newest
  pub newest : a.newest ≤ a.low
  pub low : a.low ≤ a.high
  pub high : a.high ≤ length steps
  pub late : (v place : ℕ) → IsOnAt steps a.marked.items v place → a.newest ≤ place → (a.low ≤ place) × (place < a.high)
  pub early : (v place : ℕ) → IsOnAt steps a.marked.items v place → place < a.first → (a.bottom ≤ place) × (place < a.top)
  pub stands : a.low < length steps → (v : ℕ) × IsOnAt steps a.marked.items v a.low

-- how the marking of steps before `count` changes where they lie
pub record Reaches (count : ℕ) (old new : Analysis) : Type 0 where
  pub first : new.first ≡ old.first
  pub newest : new.newest ≡ old.newest
  pub high : new.high ≡ old.high
  pub low : new.low ≤ old.low
  pub kept : count ≤ old.newest → new.low ≡ old.low
  pub top : (bound : ℕ) → old.top ≤ bound → count ≤ bound → new.top ≤ bound

-- the clause has the false literals of variables that were marked and aren't any more, each once
pub record TakesMarks (steps : List Step) (old new : List Bool) (clause : List Literal) : Type 0 where
  pub size : length new ≡ length old
  pub left : (v : ℕ) → IsOn new v → IsOn old v
  pub distinct : IsDistinct eqb (map (λ l. l.variable) clause)
  pub taken : (l : Literal) → Contains clause l → IsOn old l.variable × (IsOn new l.variable → ⊥) × (known_truth steps l ≡ Some false)
  pub found : (l : Literal) → IsOn old l.variable → known_truth steps l ≡ Some false → IsOn new l.variable ⊎ Contains clause l

-- the clause has the false literals of the marked variables, each once, that of this variable first
pub record IsClauseOf (steps : List Step) (marked : List Bool) (first : ℕ) (clause : List Literal) : Type 0 where
  pub asserted : Literal
  pub others : List Literal
  pub split : clause ≡ asserted ∷ others
  pub same : asserted.variable ≡ first
  pub distinct : IsDistinct eqb (map (λ l. l.variable) clause)
  pub taken : (l : Literal) → Contains clause l → IsOn marked l.variable × (known_truth steps l ≡ Some false)
  pub found : (l : Literal) → IsOn marked l.variable → known_truth steps l ≡ Some false → Contains clause l
