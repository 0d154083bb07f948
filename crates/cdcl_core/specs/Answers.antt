-- What a search for a model knows, and what it may answer.
use Rattle.std.specs.Prelude.{◌≡◌, ℕ, suc, ◌+◌, ◌-◌, ◌*◌, ◌<◌, ◌≤◌, Bool, true, false, List, [], ◌∷◌, ◌++◌, Option, Some, None, length, count_by, slice_get, IsSomeAnd}
use Rattle.sat_form.specs.Satisfaction.{Literal, Form, Satisfies, assignment_of}
use Rattle.sat_form.specs.Databases.{added_clauses, deleted_numbers, numbered_clauses, AreEntriesWithin}
use Rattle.sat_form.specs.Refutation.{IsRefutation}
use Rattle.sat_form.specs.Budget.{AreAllowed, IsSpent}
use Rattle.sat_form.specs.declared.logs.Entry.{Entry}
use Rattle.sat_form.specs.declared.logs.Entry.TheVariants.{Added}
use Rattle.cdcl_core.specs.Steps.{oldest, decision_places}
use Rattle.cdcl_core.specs.Settled.{AreFalse}
use Rattle.cdcl_core.specs.Learning.{IsClear}
use Rattle.cdcl_core.specs.Watched.{AreWatched, IsHeld}
use Rattle.cdcl_core.specs.Jumps.{IsNewest, IsFirstFrom}
use Rattle.cdcl_core.specs.declared.trail.Step.{Step}
use Rattle.cdcl_core.specs.declared.watches.Pair.{Pair}
use Rattle.cdcl_core.specs.declared.search.Search.{Search}
use Rattle.cdcl_core.specs.declared.search.Answer.{Answer}
use Rattle.cdcl_core.specs.declared.search.Answer.TheVariants.{Sat, Unsat, Spent}

-- whether the clause has a literal
abbrev pub has_literal : List Literal → Bool
has_literal [] = false
has_literal (l ∷ ls) = true

-- how many clauses the log adds that aren't empty
abbrev pub unit_count : List Entry → ℕ
unit_count log = count_by has_literal (added_clauses log)

-- each entry but the last adds a unit of the budget, or deletes, as a budget allows, a clause that the log added; the last
-- adds the empty clause
pub record EndsAllowed (form : List (List Literal)) (log : List Entry) : Type 0 where
  pub front : List Entry
  pub hints : List ℕ
  pub ends : log ≡ front ++ Added [] hints ∷ []
  pub allowed : AreAllowed form front

-- a model of the form over its variables; a refutation that adds at most n units and then the empty clause; or a log that
-- has spent a budget of n units
abbrev pub IsAnswer : Form → ℕ → Answer → Type 0
IsAnswer form n (Sat model) = (length model ≡ form.variables) × Satisfies (assignment_of model) form.clauses
IsAnswer form n (Unsat log) =
    IsRefutation form.clauses log × (unit_count log ≤ n) × AreEntriesWithin form.variables log × EndsAllowed form.clauses log
IsAnswer form n (Spent log) = IsSpent form.clauses log n × AreEntriesWithin form.variables log

-- the clauses are those of the form and of the log, which has only units, at most n
pub record IsLogged (form : Form) (n : ℕ) (clauses : List (List Literal)) (log : List Entry) : Type 0 where
  pub numbered : clauses ≡ numbered_clauses form.clauses log
  pub live : deleted_numbers log ≡ []
  pub allowed : AreAllowed form.clauses log
  pub within : AreEntriesWithin form.variables log
  pub count : length log ≤ n

-- what a search keeps
pub record IsKept (s : Search) : Type 0 where
  pub held : IsHeld s.clauses s.trail s.watches
  pub clear : IsClear s.trail.variables s.analysis
  pub places : s.decisions.items ≡ decision_places s.trail.steps

-- the search is one for a model of the form
pub record IsReady (form : Form) (n : ℕ) (s : Search) : Type 0 where
  pub kept : IsKept s
  pub variables : s.trail.variables ≡ form.variables
  pub logged : IsLogged form n s.clauses s.log

-- the clause of this number is false
abbrev pub IsConflict : Search → ℕ → Type 0
IsConflict s number = IsSomeAnd (slice_get s.clauses number) (AreFalse s.trail.steps)

-- each clause is watched, as far as the steps were propagated
pub record IsWatching (s : Search) : Type 0 where
  pub most : s.propagated ≤ length s.trail.steps
  pub watched : AreWatched (oldest s.propagated s.trail.steps) s.trail.steps s.clauses s.watches.pairs.items

-- each step was propagated, and each clause is watched
pub record IsPropagated (s : Search) : Type 0 where
  pub all : s.propagated ≡ length s.trail.steps
  pub watched : AreWatched s.trail.steps s.trail.steps s.clauses s.watches.pairs.items

-- a conflict, or none as far as the steps were propagated
abbrev pub IsAt : Search → Option ℕ → Type 0
IsAt s None = IsWatching s
IsAt s (Some number) = IsConflict s number

-- a conflict, or none where each step was propagated
abbrev pub IsDone : Search → Option ℕ → Type 0
IsDone s None = IsPropagated s
IsDone s (Some number) = IsConflict s number

-- how much of a search with a budget of n units is left: the units first, and then the variables without a value
abbrev pub left : ℕ → Search → ℕ
left n s = (n - length s.log) * suc s.trail.variables + (s.trail.variables - length s.trail.steps)

-- the index of the oldest decision before which the clause leaves the first of the pair, where the second is the other one of
-- its literals that got its value last
pub record IsTarget (steps : List Step) (places : List ℕ) (clause : List Literal) (p : Pair) (index : ℕ) : Type 0 where
  pub kept : ℕ
  pub newest : IsNewest steps clause p.first p.second kept
  pub first : IsFirstFrom places kept index

-- the log of the answer, if it has one, deletes nothing
abbrev pub AddsOnly : Answer → Type 0
AddsOnly (Sat model) = Unit {0}
AddsOnly (Unsat log) = deleted_numbers log ≡ []
AddsOnly (Spent log) = deleted_numbers log ≡ []

-- a search has come to an answer, or less of it is left
abbrev pub HasAdvanced : Form → ℕ → Search → Search → Option Answer → Type 0
HasAdvanced form n old new (Some answer) = IsAnswer form n answer × AddsOnly answer
HasAdvanced form n old new None = IsReady form n new × IsWatching new × (left n new < left n old)
