-- A graph, the nodes that can be made in it, the graph that it grows into, and the node that was made.
use Rattle.std.specs.Prelude.{◌≡◌, ℕ, ◌+◌, ◌^◌, ◌<◌, ◌≤◌, ◌⊎◌, List, [], ◌∷◌, ◌++◌, length, map, slice_index_or}
use Rattle.std.specs.List.{AllByRecursion}
use Rattle.words.specs.BitVector.{BitVector}
use Rattle.word_dag.specs.declared.nodes.Id.{Id}
use Rattle.word_dag.specs.declared.nodes.Node.{Node}
use Rattle.word_dag.specs.declared.nodes.Node.TheVariants.{Constant, Variable, Not, Negate, Binary, Shift, Compare, Fits, Choice, ZeroExtend, SignExtend, Cut, Join, Quantify}
use Rattle.word_dag.specs.declared.nodes.Quantifier.{Quantifier}
use Rattle.word_dag.specs.Meaning.{width, value, widths, values, bit_value, places, quantified, node_width, node_value}

-- the node is one of these
abbrev pub Within : List Node → Id → Type 0
Within nodes i = i.index < length nodes

-- the node can be made in this graph: its operands are nodes of it, with fitting widths
abbrev pub IsFitting : List Node → Node → Type 0
IsFitting d (Constant bits w) = (1 ≤ w) × (w ≤ 64) × (bits < 2 ^ w)
IsFitting d (Variable x w) = (1 ≤ w) × (w ≤ 64)
IsFitting d (Not a) = Within d a
IsFitting d (Negate a) = Within d a
IsFitting d (Binary o a b) = Within d a × Within d b × (width d a ≡ width d b)
IsFitting d (Shift s a count) = Within d a × Within d count × (width d a ≡ width d count)
IsFitting d (Compare c a b) = Within d a × Within d b × (width d a ≡ width d b)
IsFitting d (Fits t a b) = Within d a × Within d b × (width d a ≡ width d b)
IsFitting d (Choice c a b) = Within d c × (width d c ≡ 1) × Within d a × Within d b × (width d a ≡ width d b)
IsFitting d (ZeroExtend a w) = Within d a × (width d a ≤ w) × (w ≤ 64)
IsFitting d (SignExtend a w) = Within d a × (width d a ≤ w) × (w ≤ 64)
IsFitting d (Cut a low w) = Within d a × (1 ≤ w) × (low + w ≤ width d a)
IsFitting d (Join high low) = Within d high × Within d low × (width d high + width d low ≤ 64)
IsFitting d (Quantify q first count) = (first.index + count ≤ length d) × AllByRecursion (λ j. width d (record { index = j }) ≡ 1) (places first.index count)

-- e has the nodes of d at the same places, with the same widths and values
pub record Extends (d e : List Node) : Type 0 where
  pub longer : length d ≤ length e
  pub node_stays : (i : ℕ) (n : Node) → i < length d → slice_index_or e i n ≡ slice_index_or d i n
  pub width_stays : (i : Id) → Within d i → width e i ≡ width d i
  pub value_stays : (v : ℕ → ℕ) (i : Id) → Within d i → value v e i ≡ value v d i

-- in e the node i means what n means behind the nodes of d
pub record Makes (d e : List Node) (n : Node) (i : Id) : Type 0 where
  pub there : Within e i
  pub width_is : width e i ≡ node_width (widths d) n
  pub value_is : (v : ℕ → ℕ) → value v e i ≡ node_value v (widths d) (values v d) n

-- a truth value of the graph
pub record IsTruthValue (d : List Node) (i : Id) : Type 0 where
  pub there : Within d i
  pub width_is : width d i ≡ 1

-- e is d with one node behind it, which has the value of i, a truth value
pub record IsCopied (d e : List Node) (i : Id) : Type 0 where
  pub count : length e ≡ length d + 1
  pub width_is : width e (record { index = length d }) ≡ 1
  pub value_is : (v : ℕ → ℕ) → value v e (record { index = length d }) ≡ value v d i

-- in e the node i tells whether all, or any, of these nodes of d are true
pub record Quantifies (d e : List Node) (q : Quantifier) (ids : List Id) (i : Id) : Type 0 where
  pub there : Within e i
  pub width_is : width e i ≡ 1
  pub value_is : (v : ℕ → ℕ) → value v e i ≡ bit_value (quantified q (map (value v d) ids))

-- e is d, or d with one more node: n or a constant
abbrev pub Grows : List Node → List Node → Node → Type 0
Grows d e n = (e ≡ d) ⊎ ((e ≡ d ++ n ∷ []) ⊎ ((bits : ℕ) × (w : ℕ) × (e ≡ d ++ Constant bits w ∷ [])))

-- the node i is n itself
abbrev pub Stands : List Node → Node → Id → Type 0
Stands d n i = Within d i × (slice_index_or d i.index n ≡ n)

-- n is one of the nodes
abbrev pub IsNode : List Node → Node → Type 0
IsNode d n = (i : Id) × Stands d n i

-- e is d where n is one of its nodes, and else d with n behind it
pub record Shares (d e : List Node) (n : Node) : Type 0 where
  pub there : IsNode d n → e ≡ d
  pub added : (IsNode d n → ⊥) → e ≡ d ++ n ∷ []

-- behind the nodes of d both mean the same
pub record MeansSame (d : List Node) (n m : Node) : Type 0 where
  pub width_is : node_width (widths d) m ≡ node_width (widths d) n
  pub value_is : (v : ℕ → ℕ) → node_value v (widths d) (values v d) m ≡ node_value v (widths d) (values v d) n

-- the word is what n means behind the nodes of d, whatever the variables are
pub record IsDecided (d : List Node) (n : Node) (w : BitVector) : Type 0 where
  pub width_is : w.width ≡ node_width (widths d) n
  pub bits_are : (v : ℕ → ℕ) → node_value v (widths d) (values v d) n ≡ w.bits
