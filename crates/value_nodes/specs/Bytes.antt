-- Bytes as nodes.
use Rattle.std.specs.Prelude.{◌≡◌, ℕ, zero, suc, ◌+◌, ◌*◌, ◌<◌, ◌≤◌, List, map, slice_index}
use Rattle.std.specs.Int.{byte_worth}
use Rattle.words.specs.Operators.{low_bits, logical_shift}
use Rattle.word_dag.specs.declared.nodes.Id.{Id}
use Rattle.word_dag.specs.declared.nodes.Node.{Node}
use Rattle.word_dag.specs.Meaning.{width, value}
use Rattle.word_dag.specs.Growth.{Within}
use Rattle.value_nodes.specs.Values.{AreBytes}

-- nodes of 8 bits that have these bytes as their values
pub record AreBytesOf (d : List Node) (ids : List Id) (f : (ℕ → ℕ) → List ℕ) : Type 0 where
  pub words : AreBytes d ids
  pub values_are : (v : ℕ → ℕ) → map (value v d) ids ≡ f v

-- the first k nodes are the bytes of a word from a bit on, which ends behind them or later
pub record AreCuts (d : List Node) (word : Id) (low : ℕ) (ids : List Id) (k : ℕ) : Type 0 where
  pub there : Within d word
  pub fits : low + 8 * k ≤ width d word
  pub each : (v : ℕ → ℕ) (i : ℕ) → i < k → slice_index (map (value v d) ids) i ≡ low_bits 8 (logical_shift (value v d word) (low + 8 * i))

-- the number that the first k bytes are, the lowest first
abbrev pub sum_of_bytes : List ℕ → ℕ → ℕ
sum_of_bytes bytes zero = 0
sum_of_bytes bytes (suc k) = sum_of_bytes bytes k + byte_worth k (slice_index bytes k)
