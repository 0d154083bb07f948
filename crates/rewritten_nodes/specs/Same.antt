-- Nodes that say the same.
use Rattle.std.specs.Prelude.{◌≡◌, ℕ, Bool, true, List}
use Rattle.word_dag.specs.declared.nodes.Id.{Id}
use Rattle.word_dag.specs.declared.nodes.Node.{Node}
use Rattle.word_dag.specs.Meaning.{width, value, widths, values, node_width, node_value, bit_value, holds}
use Rattle.word_dag.specs.Growth.{Within, IsFitting}

-- a truth value that no variable changes
pub record IsTruth (d : List Node) (i : Id) (b : Bool) : Type 0 where
  pub width_is : width d i ≡ 1
  pub value_is : (v : ℕ → ℕ) → value v d i ≡ bit_value b

-- truth values that are true where another is
pub record AreConjuncts (d : List Node) (i a b : Id) : Type 0 where
  pub left_there : Within d a
  pub left_width : width d a ≡ 1
  pub left : (v : ℕ → ℕ) → holds (value v d i) ≡ true → holds (value v d a) ≡ true
  pub right : (v : ℕ → ℕ) → holds (value v d i) ≡ true → holds (value v d b) ≡ true

-- where the condition is true, or false, a node has the value of the other
pub record IsSide (d : List Node) (condition i : Id) (is : Bool) (other : Id) : Type 0 where
  pub there : Within d other
  pub width_is : width d other ≡ width d i
  pub value_is : (v : ℕ → ℕ) → holds (value v d condition) ≡ is → value v d other ≡ value v d i

-- a node that can be made where the other can be, and says the same
pub record IsSame (d : List Node) (n m : Node) : Type 0 where
  pub fits : IsFitting d m
  pub width_is : node_width (widths d) m ≡ node_width (widths d) n
  pub value_is : (v : ℕ → ℕ) → node_value v (widths d) (values v d) m ≡ node_value v (widths d) (values v d) n
