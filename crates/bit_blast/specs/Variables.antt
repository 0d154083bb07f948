-- The variables of a graph, and the literals that stand for them.
use Rattle.std.specs.Prelude.{◌≡◌, ℕ, zero, suc, ◌+◌, ◌==◌, max, Bool, false, List, [], ◌∷◌, length, if◌then◌else◌}
use Rattle.sat_form.specs.Satisfaction.{Literal, Form}
use Rattle.words.specs.Operators.{low_bits}
use Rattle.word_dag.specs.declared.nodes.Node.{Node}
use Rattle.word_dag.specs.declared.nodes.Node.TheVariants.{Variable}
use Rattle.bit_blast.specs.Numbers.{literals_at, lifted}

-- the width at which a node reads the variable k; 0 where it doesn't
abbrev pub width_read : Node → ℕ → ℕ
width_read (Variable x w) k = if x == k then w else 0
width_read _ k = 0

-- the width of the widest node of the variable k; 0 where the graph doesn't have it
abbrev pub variable_width : List Node → ℕ → ℕ
variable_width [] k = 0
variable_width (n ∷ ns) k = max (width_read n k) (variable_width ns k)

-- the literal that is true where its variable is
abbrev pub plain : ℕ → Literal
plain variable = record { variable = variable; negated = false }

-- the literals of this many variables from `first` on
abbrev pub plain_literals : ℕ → ℕ → List Literal
plain_literals first zero = []
plain_literals first (suc n) = plain first ∷ plain_literals (first + 1) n

-- the lists, one after another, are the literals of the variables from `first` up to `last`
abbrev pub AreConsecutive : ℕ → List (List Literal) → ℕ → Type 0
AreConsecutive first [] last = first ≡ last
AreConsecutive first (ls ∷ lists) last = (ls ≡ plain_literals first (length ls)) × AreConsecutive (first + length ls) lists last

-- the form before the first node: variable 0 is true, and each variable of the graph has literals of its own, as many as its widest node
pub record IsBeginning (nodes : List Node) (variables : List (List Literal)) (form : Form) : Type 0 where
  pub clauses : form.clauses ≡ (plain 0 ∷ []) ∷ []
  pub own : AreConsecutive 1 variables form.variables
  pub wide : (k : ℕ) → length (literals_at variables k) ≡ variable_width nodes k

-- the assignment gives each variable's literals the bits of its value
abbrev pub Spells : List Node → List (List Literal) → (ℕ → ℕ) → (ℕ → Bool) → Type 0
Spells nodes variables v x = (k : ℕ) → lifted variables x k ≡ low_bits (variable_width nodes k) (v k)
