-- What a search learns from a conflict.
use Rattle.std.specs.Prelude.{◌≡◌, ◌≢◌, ℕ, ◌≤◌, Bool, true, false, List, [], ◌∷◌, ◌++◌, Some, None, length, slice_get, slice_index_or, Contains}
use Rattle.std.specs.List.{filter_map}
use Rattle.sat_form.specs.Satisfaction.{Literal, IsWithin}
use Rattle.sat_form.specs.Propagation.{Follows}
use Rattle.sat_form.specs.Databases.{numbered_clauses, deleted_numbers}
use Rattle.sat_form.specs.Budget.{IsUnit, IsConflictBy}
use Rattle.sat_form.specs.declared.logs.Entry.{Entry}
use Rattle.cdcl_core.specs.declared.trail.Step.{Step}
use Rattle.cdcl_core.specs.declared.analysis.Analysis.{Analysis}
use Rattle.cdcl_core.specs.declared.analysis.Lesson.{Lesson}
use Rattle.cdcl_core.specs.declared.analysis.Lesson.TheVariants.{Learned, Refuted}
use Rattle.cdcl_core.specs.Steps.{known_truth, oldest, decision_places}
use Rattle.cdcl_core.specs.Settled.{AreFalse}

-- each marked variable was touched
abbrev pub AreTouched : List Bool → List ℕ → Type 0
AreTouched marked touched = (v : ℕ) → slice_index_or marked v false ≡ true → Contains touched v

-- the analysis is ready for a clause over n variables
pub record IsClear (n : ℕ) (a : Analysis) : Type 0 where
  pub size : length a.marked.items ≡ n
  pub touched : AreTouched a.marked.items a.touched.items

-- the number is the last of these
abbrev pub IsLast : List ℕ → ℕ → Type 0
IsLast numbers n = (front : List ℕ) × (numbers ≡ front ++ n ∷ [])

-- the clauses of these numbers, in order
abbrev pub clauses_at : List (List Literal) → List ℕ → List (List Literal)
clauses_at clauses numbers = filter_map (slice_get clauses) numbers

-- the clause is a unit behind each log that leaves these clauses, and it asserts l where the newest decision is taken back
pub record IsLearned (n : ℕ) (clauses : List (List Literal)) (steps : List Step) (c : List Literal) (l : Literal) (hints : List ℕ) : Type 0 where
  pub within : IsWithin n c
  pub short : length c ≤ n
  pub unit : (form : List (List Literal)) (log : List Entry) → numbered_clauses form log ≡ clauses → deleted_numbers log ≡ [] → IsUnit form log c hints
  pub newest : ℕ
  pub last : IsLast (decision_places steps) newest
  pub stands : Contains c l
  pub open_ : known_truth (oldest newest steps) l ≡ None
  pub others : (m : Literal) → Contains c m → m ≢ l → known_truth (oldest newest steps) m ≡ Some false
  pub false_ : AreFalse steps c

-- what follows from a conflict: a clause, or, where no step is a decision, that clauses of these numbers come to a conflict
-- by themselves
abbrev pub IsLesson : ℕ → List (List Literal) → List Step → Lesson → Type 0
IsLesson n clauses steps (Learned c l hints) = IsLearned n clauses steps c l hints
IsLesson n clauses steps (Refuted hints) =
    (decision_places steps ≡ []) × Follows clauses [] × ((given : List Literal) × IsConflictBy [] (clauses_at clauses hints) given)
