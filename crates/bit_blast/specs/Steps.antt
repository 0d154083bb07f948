-- The clauses of a graph's goal: a beginning, one step for each node in order, and the goal's clause.
use Rattle.std.specs.Prelude.{◌≡◌, ℕ, zero, suc, ◌<◌, Bool, false, IsTrue, List, [], ◌∷◌, ◌++◌, length, slice_index_or}
use Rattle.std.specs.Bool.{MatchBool}
use Rattle.sat_form.specs.Satisfaction.{Literal, Form}
use Rattle.word_dag.specs.declared.nodes.Node.{Node}
use Rattle.word_dag.specs.Meaning.{node_width, node_value, widths}
use Rattle.word_dag.specs.Fitting.{is_ordered}
use Rattle.gate_arith.specs.Growth.{Grows, added_to}
use Rattle.gate_bits.specs.Truth.{IsNumber}
use Rattle.bit_blast.specs.Numbers.{literals_at, numbers_of, lifted}
use Rattle.bit_blast.specs.Reach.{node_at, AreMarks}
use Rattle.bit_blast.specs.Variables.{IsBeginning}

-- The step of a node, over the widths ws of the nodes and the literals of those before it. The form only grows: each model of the old one extends to the added clauses at new variables alone, and so does each assignment in which the literal of the form's first clause is true. In each assignment that satisfies the added clauses, the node's own literals give what the node means over the numbers of its operands and of the variables.
pub record IsEncoded (ws : List ℕ) (variables before : List (List Literal)) (n : Node) (old new : Form) (own : List Literal) : Type 0 where
  pub grows : Grows old new
  pub is : IsNumber (added_to old new) (node_width ws n) own (λ x. node_value (lifted variables x) ws (numbers_of before x) n)

-- the step of a node that the goal doesn't lead to: nothing is added
pub record IsSkipped (old new : Form) (own : List Literal) : Type 0 where
  pub form : new ≡ old
  pub literals : own ≡ []

-- one step more behind those of the nodes before place k: the form, and the literals of the nodes so far
pub record AfterStep (nodes : List Node) (marks : List Bool) (variables : List (List Literal)) (k : ℕ) (Before : Form → List (List Literal) → Type 0) (form : Form) (literals : List (List Literal)) : Type 0 where
  pub old : Form
  pub before : List (List Literal)
  pub own : List Literal
  pub earlier : Before old before
  pub literals_are : literals ≡ before ++ own ∷ []
  pub step : MatchBool (slice_index_or marks k false) (IsEncoded (widths nodes) variables before (node_at nodes k) old form own) (IsSkipped old form own)

-- the steps of the first k nodes lead from the form `first` to this form, and give the nodes these literals
abbrev pub AreSteps : List Node → List Bool → List (List Literal) → Form → ℕ → Form → List (List Literal) → Type 0
AreSteps nodes marks variables first zero form literals = (form ≡ first) × (literals ≡ [])
AreSteps nodes marks variables first (suc k) form literals = AfterStep nodes marks variables k (AreSteps nodes marks variables first k) form literals

-- the form is that of the graph's goal, a truth value, and the variables of the graph have these literals
pub record IsBlasted (nodes : List Node) (goal : ℕ) (variables : List (List Literal)) (cnf : Form) : Type 0 where
  pub ordered : IsTrue (is_ordered nodes)
  pub there : goal < length nodes
  pub bit : slice_index_or (widths nodes) goal 0 ≡ 1
  pub marks : List Bool
  pub marked : AreMarks nodes goal marks
  pub first : Form
  pub begins : IsBeginning nodes variables first
  pub last : Form
  pub literals : List (List Literal)
  pub steps : AreSteps nodes marks variables first (length nodes) last literals
  pub ends : cnf ≡ record last { clauses = last.clauses ++ literals_at literals goal ∷ [] }
