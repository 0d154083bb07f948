-- A candidate: for each thread the events that it executes, and when (CAV 2013). Events are named by anything.
use Rattle.std.specs.Prelude.{◌≡◌, ◌<◌, ℕ, List, [], ◌∷◌, Option, Some, ◌⊎◌, ◌==◌, if◌then◌else◌}
use Rattle.actions.specs.declared.action.Next.{Next}
use Rattle.actions.specs.Memory.{Memory, Change}
use Rattle.actions.specs.Row.{Outcome, outcome_in}
use Rattle.actions.specs.Table.{Mode}
use Rattle.weave.specs.Place.{Place, Value, ReadsPlace, written}
use Rattle.weave.specs.Step.{row_by, mode_by, change_by}

abbrev pub In : {X : Type 0} → X → List X → Type 0
In x [] = ⊥
In x (y ∷ ys) = (x ≡ y) ⊎ In x ys

abbrev pub Each : {X : Type 0} → (X → Type 0) → List X → Type 0
Each P [] = Unit {0}
Each P (x ∷ xs) = P x × Each P xs

-- those of a list for which a function gives k
abbrev pub chosen : {X : Type 0} → (X → ℕ) → ℕ → List X → List X
chosen f k [] = []
chosen f k (x ∷ xs) = if f x == k then x ∷ chosen f k xs else chosen f k xs

-- of each event its thread, its place in the thread, its clock, the step that it is with the step's own part, and what it reads: `view` counts only where the step reads. Then for each thread its executed events in order.
pub record Candidate (Id : Type 0) : Type 0 where
  pub thread : Id → ℕ
  pub place : Id → ℕ
  pub clock : Id → ℕ
  pub next : Id → Next
  pub own : Id → ℕ
  pub view : Id → Memory
  pub runs : ℕ → List Id

module _ {Id : Type 0} (c : Candidate Id) where
  abbrev pub Executed : Id → Type 0
  Executed x = In x (c.runs (c.thread x))

  -- what comes of the event, for what it reads
  abbrev pub outcome_at : Id → Outcome
  outcome_at x = outcome_in (c.view x) (row_by (c.thread x) (c.own x) (c.next x))

  abbrev pub change_at : Id → Change
  change_at x = change_by (outcome_at x)

  abbrev pub mode_at : Id → Mode
  mode_at x = mode_by (c.next x)

  abbrev pub ReadsAt : Id → Place → Type 0
  ReadsAt x p = ReadsPlace (c.view x) (row_by (c.thread x) (c.own x) (c.next x)) p

  abbrev pub written_at : Id → Place → Option Value
  written_at x p = written (change_at x) p

  abbrev pub WritesAt : Id → Place → Type 0
  WritesAt x p = (v : Value) × (written_at x p ≡ Some v)

  -- of greater clock, or further on in the same group
  abbrev pub Later : Id → Id → Type 0
  Later y x = (c.clock x < c.clock y) ⊎ ((c.clock x ≡ c.clock y) × (c.thread x ≡ c.thread y) × (c.place x < c.place y))

  -- the order of turns: by clock, then thread, then place
  abbrev pub Before : Id → Id → Type 0
  Before x y = (c.clock x < c.clock y) ⊎ ((c.clock x ≡ c.clock y) × ((c.thread x < c.thread y) ⊎ ((c.thread x ≡ c.thread y) × (c.place x < c.place y))))
