-- Cells set to some of a list of nodes.
use Rattle.std.specs.Prelude.{◌≡◌, ℕ, ◌+◌, ◌<◌, ◌≤◌, List, Option, slice_get}
use Rattle.word_dag.specs.declared.nodes.Id.{Id}

-- so many cells from one on are set to the nodes from a place on, and those behind the last node to none; those around them are as they were
pub record Filled (old : ℕ → Option Id) (at from count : ℕ) (ids : List Id) (new : ℕ → Option Id) : Type 0 where
  pub front : (c : ℕ) → c < at → new c ≡ old c
  pub here : (k : ℕ) → k < count → new (at + k) ≡ slice_get ids (from + k)
  pub behind : (c : ℕ) → at + count ≤ c → new c ≡ old c
