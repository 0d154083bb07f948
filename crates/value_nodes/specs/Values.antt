-- Nodes of a word graph by the values that they have under each valuation.
use Rattle.std.specs.Prelude.{◌≡◌, ℕ, Bool, List, All}
use Rattle.word_dag.specs.declared.nodes.Id.{Id}
use Rattle.word_dag.specs.declared.nodes.Node.{Node}
use Rattle.word_dag.specs.Meaning.{width, value, bit_value}
use Rattle.word_dag.specs.Growth.{Within}

-- a node of this width
pub record IsWord (d : List Node) (i : Id) (w : ℕ) : Type 0 where
  pub there : Within d i
  pub width_is : width d i ≡ w

-- a node of this width with these values
pub record IsValue (d : List Node) (i : Id) (w : ℕ) (f : (ℕ → ℕ) → ℕ) : Type 0 where
  pub there : Within d i
  pub width_is : width d i ≡ w
  pub value_is : (v : ℕ → ℕ) → value v d i ≡ f v

-- a node that is a truth value
pub record IsTest (d : List Node) (i : Id) (f : (ℕ → ℕ) → Bool) : Type 0 where
  pub there : Within d i
  pub width_is : width d i ≡ 1
  pub value_is : (v : ℕ → ℕ) → value v d i ≡ bit_value (f v)

-- nodes of 8 bits each
abbrev pub AreBytes : List Node → List Id → Type 0
AreBytes d ids = All (λ i. IsWord d i 8) ids
