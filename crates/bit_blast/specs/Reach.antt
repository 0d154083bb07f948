-- The nodes that a goal leads to.
use Rattle.std.specs.Prelude.{◌≡◌, ℕ, Bool, false, IsTrue, ◌↔◌, List, [], ◌∷◌, length, slice_index_or}
use Rattle.std.specs.List.{Contains}
use Rattle.word_dag.specs.declared.nodes.Node.{Node}
use Rattle.word_dag.specs.declared.nodes.Node.TheVariants.{Constant, Variable, Not, Negate, Binary, Shift, Compare, Fits, Choice, ZeroExtend, SignExtend, Cut, Join, Quantify}
use Rattle.word_dag.specs.Meaning.{places}

-- the places of the nodes that a node reads
abbrev pub operands : Node → List ℕ
operands (Constant bits w) = []
operands (Variable x w) = []
operands (Not a) = a.index ∷ []
operands (Negate a) = a.index ∷ []
operands (Binary o a b) = a.index ∷ b.index ∷ []
operands (Shift s a count) = a.index ∷ count.index ∷ []
operands (Compare c a b) = a.index ∷ b.index ∷ []
operands (Fits t a b) = a.index ∷ b.index ∷ []
operands (Choice c a b) = c.index ∷ a.index ∷ b.index ∷ []
operands (ZeroExtend a w) = a.index ∷ []
operands (SignExtend a w) = a.index ∷ []
operands (Cut a low w) = a.index ∷ []
operands (Join high low) = high.index ∷ low.index ∷ []
operands (Quantify q first count) = places first.index count

-- the node at a place; a constant where there is none
abbrev pub node_at : List Node → ℕ → Node
node_at nodes i = slice_index_or nodes i (Constant 0 0)

-- from place i, each next place of the path is read by the one before it, and the last is j
abbrev pub Leads : List Node → ℕ → List ℕ → ℕ → Type 0
Leads nodes i [] j = i ≡ j
Leads nodes i (k ∷ path) j = Contains (operands (node_at nodes i)) k × Leads nodes k path j

-- the node at j is the goal, or one that the goal's value is computed from
abbrev pub IsUnder : List Node → ℕ → ℕ → Type 0
IsUnder nodes goal j = (path : List ℕ) × Leads nodes goal path j

-- a mark for each node, set where the goal leads to it
pub record AreMarks (nodes : List Node) (goal : ℕ) (marks : List Bool) : Type 0 where
  pub count : length marks ≡ length nodes
  pub exactly : (i : ℕ) → IsTrue (slice_index_or marks i false) ↔ IsUnder nodes goal i
