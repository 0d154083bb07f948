-- Low bits that are known.
use Rattle.std.specs.Prelude.{◌≡◌, ℕ, ◌≤◌, List}
use Rattle.words.specs.Operators.{low_bits}
use Rattle.word_dag.specs.declared.nodes.Id.{Id}
use Rattle.word_dag.specs.declared.nodes.Node.{Node}
use Rattle.word_dag.specs.Meaning.{width, value}
use Rattle.byte_ops.specs.declared.low_bits.LowBits.{LowBits}

-- they are the lowest of a number
abbrev pub IsLow : LowBits → ℕ → Type 0
IsLow l x = low_bits l.count x ≡ l.bits

-- they are the lowest of a node under each valuation, no more than 16
pub record AreKnown (d : List Node) (i : Id) (l : LowBits) : Type 0 where
  pub within : l.count ≤ width d i
  pub few : l.count ≤ 16
  pub same : (v : ℕ → ℕ) → IsLow l (value v d i)
