-- Which clauses a search may delete: those of which propagation from the others gives a literal.
use Rattle.std.specs.Prelude.{◌≡◌, ℕ, ◌<◌, Bool, true, false, List, [], ◌∷◌, Some, slice_get, slice_index_or, Contains}
use Rattle.sat_form.specs.Satisfaction.{Literal}
use Rattle.sat_form.specs.Propagation.{PropagatesTo}
use Rattle.cdcl_core.specs.declared.trail.Step.{Step}
use Rattle.cdcl_core.specs.Watched.{HasTrue}

-- the clauses have each clause that isn't marked
abbrev pub HaveUnmarked : List (List Literal) → List Bool → List (List Literal) → Type 0
HaveUnmarked clauses marks cs = (k : ℕ) (d : List Literal) → slice_get clauses k ≡ Some d → slice_index_or marks k false ≡ false → Contains cs d

-- propagation from the clauses that aren't marked gives a literal of the clause
pub record IsImplied (clauses : List (List Literal)) (marks : List Bool) (c : List Literal) : Type 0 where
  pub literal : Literal
  pub stands : Contains c literal
  pub given : (cs : List (List Literal)) → HaveUnmarked clauses marks cs → PropagatesTo cs literal

-- .. of each marked one
abbrev pub AreSpare : List (List Literal) → List Bool → Type 0
AreSpare clauses marks = (k : ℕ) (c : List Literal) → slice_get clauses k ≡ Some c → slice_index_or marks k false ≡ true → IsImplied clauses marks c

-- the steps make a literal of each marked clause true
abbrev pub AreSatisfied : List Step → List (List Literal) → List Bool → Type 0
AreSatisfied steps clauses marks = (k : ℕ) (c : List Literal) → slice_get clauses k ≡ Some c → slice_index_or marks k false ≡ true → HasTrue steps c

-- none below the first numbers is marked
abbrev pub AreOffBelow : ℕ → List Bool → Type 0
AreOffBelow first marks = (k : ℕ) → k < first → slice_index_or marks k false ≡ false

-- the reason of no step is marked
abbrev pub AreReasonsOff : List Bool → List Step → Type 0
AreReasonsOff marks [] = Unit {0}
AreReasonsOff marks (s ∷ older) = ((r : ℕ) → s.reason ≡ Some r → slice_index_or marks r false ≡ false) × AreReasonsOff marks older
