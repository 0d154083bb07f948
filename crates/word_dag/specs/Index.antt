-- Where the nodes of a graph stand, by the nodes.
use Rattle.std.specs.Prelude.{◌≡◌, ◌<◌, ℕ, Bool, true, false, List, length, slice_index_or, is_some, Some, if◌then◌else◌}
use Rattle.indexmap.specs.IndexMap.{IndexMap, get}
use Rattle.word_dag.specs.declared.nodes.Node.{Node}

module _ {S : Type 0} (eq : Node → Node → Bool) where
  -- each node has a place, and each place is one of the node
  pub record IsIndex (nodes : List Node) (places : IndexMap Node ℕ S) : Type 0 where
    pub sound : (n : Node) (place : ℕ) → get eq places n ≡ Some place → (place < length nodes) × (slice_index_or nodes place n ≡ n)
    pub whole : (n : Node) (place : ℕ) → place < length nodes → slice_index_or nodes place n ≡ n → is_some (get eq places n) ≡ true

  -- a node that had no place has this one now
  pub record IsNoted (old new : IndexMap Node ℕ S) (n : Node) (place : ℕ) : Type 0 where
    pub there : is_some (get eq old n) ≡ true → (m : Node) → get eq new m ≡ get eq old m
    pub added : is_some (get eq old n) ≡ false → (m : Node) → get eq new m ≡ (if eq n m then Some place else get eq old m)
    pub own : is_some (get eq new n) ≡ true
