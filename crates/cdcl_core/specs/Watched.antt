-- Which literals of the clauses are watched, and what that says of the clauses.
use Rattle.std.specs.Prelude.{◌≡◌, ◌≢◌, ℕ, suc, ◌+◌, ◌*◌, ◌≤◌, ◌⊎◌, true, false, List, ◌∷◌, IsSomeAnd, Contains, Some, length, slice_get}
use Rattle.sat_form.specs.Satisfaction.{Literal, inverse_of, AreWithin}
use Rattle.cdcl_core.specs.declared.trail.Step.{Step}
use Rattle.cdcl_core.specs.declared.lists.Watch.{Watch}
use Rattle.cdcl_core.specs.declared.watches.Pair.{Pair}
use Rattle.cdcl_core.specs.declared.watches.Watches.{Watches}
use Rattle.cdcl_core.specs.declared.watches.Look.{Look}
use Rattle.cdcl_core.specs.declared.watches.Look.TheVariants.{Kept, Moved, Conflict}
use Rattle.cdcl_core.specs.Steps.{Course, known_truth, oldest, decision_places, AreFresh}
use Rattle.cdcl_core.specs.Settled.{AreJustified, AreFalse}
use Rattle.cdcl_core.specs.Lists.{watches_of}

-- the steps do not make the literal false
abbrev pub IsNotFalse : List Step → Literal → Type 0
IsNotFalse steps l = known_truth steps l ≢ Some false

-- the steps make each literal of the clause false but this one
abbrev pub AreFalseBeside : List Step → List Literal → Literal → Type 0
AreFalseBeside steps clause l = (m : Literal) → Contains clause m → m ≢ l → known_truth steps m ≡ Some false

-- the steps make a literal of the clause true
pub record HasTrue (steps : List Step) (clause : List Literal) : Type 0 where
  pub literal : Literal
  pub stands : Contains clause literal
  pub is : known_truth steps literal ≡ Some true

-- the watched literals are two different ones of the clause, and the steps make neither false
pub record AreOpen (steps : List Step) (clause : List Literal) (p : Pair) : Type 0 where
  pub apart : p.first ≢ p.second
  pub first : Contains clause p.first
  pub second : Contains clause p.second
  pub first_open : IsNotFalse steps p.first
  pub second_open : IsNotFalse steps p.second

-- the steps make a literal of the clause true, or the older ones make neither of the watched ones false
abbrev pub IsWatched : List Step → List Step → List Literal → Pair → Type 0
IsWatched older steps clause p = HasTrue steps clause ⊎ AreOpen older clause p

abbrev pub AreWatched : List Step → List Step → List (List Literal) → List Pair → Type 0
AreWatched older steps clauses pairs =
    (k : ℕ) (c : List Literal) (p : Pair) → slice_get clauses k ≡ Some c → slice_get pairs k ≡ Some p → IsWatched older steps c p

-- each clause is watched under the steps before each decision
abbrev pub AreQuiet : List (List Literal) → List Pair → List Step → Type 0
AreQuiet clauses pairs steps =
    (d : ℕ) → Contains (decision_places steps) d → AreWatched (oldest d steps) (oldest d steps) clauses pairs

-- from a place on there is a watch of the clause with this number
pub record Waits (from : ℕ) (watches : List Watch) (number : ℕ) : Type 0 where
  pub place : ℕ
  pub after : from ≤ place
  pub watch : Watch
  pub is : slice_get watches place ≡ Some watch
  pub of : watch.number ≡ number

-- the watched literals stand in the clause, and each has a watch of it
pub record IsListed (lists : List (List Watch)) (number : ℕ) (clause : List Literal) (p : Pair) : Type 0 where
  pub first : Contains clause p.first
  pub second : Contains clause p.second
  pub first_waits : Waits 0 (watches_of lists p.first) number
  pub second_waits : Waits 0 (watches_of lists p.second) number

-- the watch is of a clause with two watched literals, and its blocker stands in it
pub record IsGood (clauses : List (List Literal)) (pairs : List Pair) (w : Watch) : Type 0 where
  pub clause : List Literal
  pub found : slice_get clauses w.number ≡ Some clause
  pub pair : Pair
  pub watched : slice_get pairs w.number ≡ Some pair
  pub apart : pair.first ≢ pair.second
  pub blocks : Contains clause w.blocker

-- each pair of two literals is listed, and each watch is good
pub record AreListed (n : ℕ) (clauses : List (List Literal)) (pairs : List Pair) (lists : List (List Watch)) : Type 0 where
  pub room : length lists ≡ 2 * n
  pub count : length pairs ≡ length clauses
  pub listed : (k : ℕ) (c : List Literal) (p : Pair) → slice_get clauses k ≡ Some c → slice_get pairs k ≡ Some p → p.first ≢ p.second → IsListed lists k c p
  pub good : (l : Literal) (i : ℕ) (w : Watch) → slice_get (watches_of lists l) i ≡ Some w → IsGood clauses pairs w

-- a clause whose watched literals are the same has no other literal
abbrev pub AreSingle : List (List Literal) → List Pair → Type 0
AreSingle clauses pairs =
    (k : ℕ) (c : List Literal) (p : Pair) → slice_get clauses k ≡ Some c → slice_get pairs k ≡ Some p → p.first ≡ p.second →
    (m : Literal) → Contains c m → m ≡ p.first

-- what a search keeps of its clauses, steps and watches
pub record IsHeld (clauses : List (List Literal)) (x : Course) (w : Watches) : Type 0 where
  pub within : AreWithin x.variables clauses
  pub fresh : AreFresh x.variables x.steps
  pub justified : AreJustified clauses x.steps
  pub listed : AreListed x.variables clauses w.pairs.items w.lists
  pub quiet : AreQuiet clauses w.pairs.items x.steps

-- the step at this place makes the literal false
pub record IsFalsifiedAt (place : ℕ) (steps : List Step) (l : Literal) : Type 0 where
  pub step : Step
  pub is : oldest (suc place) steps ≡ step ∷ oldest place steps
  pub inverse : step.literal ≡ inverse_of l

-- each clause is watched under the steps up to this place, but for those that wait among these watches from a place on
abbrev pub AreVisited : ℕ → ℕ → List (List Literal) → List Step → List Pair → List Watch → Type 0
AreVisited place at clauses steps pairs watches =
    (k : ℕ) (c : List Literal) (p : Pair) → slice_get clauses k ≡ Some c → slice_get pairs k ≡ Some p →
    IsWatched (oldest (suc place) steps) steps c p ⊎ (IsWatched (oldest place steps) steps c p × Waits at watches k)

-- what a look at the watch at this place came to, where there were so many: the next one waits, or the last stands in its place
abbrev pub IsLook : ℕ → ℕ → List (List Literal) → List Step → ℕ → List Pair → List Watch → Look → Type 0
IsLook place at clauses steps count pairs watches Kept = (length watches ≡ count) × AreVisited place (at + 1) clauses steps pairs watches
IsLook place at clauses steps count pairs watches Moved = (length watches + 1 ≡ count) × AreVisited place at clauses steps pairs watches
IsLook place at clauses steps count pairs watches (Conflict number) = IsSomeAnd (slice_get clauses number) (AreFalse steps)
