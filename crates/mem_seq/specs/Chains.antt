-- What an event adds to whether the run breaks a check later, and what the events so far say together.
use Rattle.std.specs.Prelude.{ℕ, Bool, true, false, ◌&&◌, ◌||◌, List, map, All}
use Rattle.std.specs.List.{list_all, list_any}
use Rattle.word_dag.specs.declared.nodes.Node.{Node}
use Rattle.word_dag.specs.declared.nodes.Quantifier.{Quantifier}
use Rattle.word_dag.specs.declared.nodes.Quantifier.TheVariants as quantifiers
use Rattle.word_dag.specs.Growth.{IsTruthValue}
use Rattle.word_dag.specs.Meaning.{value, holds}
use Rattle.mem_seq.specs.declared.chain.Part.{Part}
use Rattle.mem_seq.specs.declared.chain.Part.TheVariants.{Nothing, Needs, Breaks}
use Rattle.mem_seq.specs.declared.chain.Chain.{Chain}

-- ---- one part

-- what is so with this part, by what is so later
abbrev pub with_part : (ℕ → ℕ) → List Node → Part → Bool → Bool
with_part v d Nothing later = later
with_part v d (Needs i) later = holds (value v d i) && later
with_part v d (Breaks i) later = holds (value v d i) || later

-- its node is a truth value of the graph
abbrev pub PartIn : List Node → Part → Type 0
PartIn d Nothing = Unit {0}
PartIn d (Needs i) = IsTruthValue d i
PartIn d (Breaks i) = IsTruthValue d i

-- ---- parts of one kind

-- both of two truths, or one of them
abbrev pub joined : Quantifier → Bool → Bool → Bool
joined quantifiers.All x y = x && y
joined quantifiers.Any x y = x || y

-- the truth that says nothing beside another
abbrev pub unit_of : Quantifier → Bool
unit_of quantifiers.All = true
unit_of quantifiers.Any = false

-- all of these words are true and what is later, or any of them is or what is later
abbrev pub quantified_with : Quantifier → List ℕ → Bool → Bool
quantified_with quantifiers.All words later = list_all holds words && later
quantified_with quantifiers.Any words later = list_any holds words || later

abbrev pub chain_value : (ℕ → ℕ) → List Node → Chain → Bool
chain_value v d c = quantified_with c.quantifier (map (value v d) c.parts.items) (holds (value v d c.later))

-- its nodes are truth values of the graph
pub record ChainIn (d : List Node) (c : Chain) : Type 0 where
  pub parts : All (IsTruthValue d) c.parts.items
  pub later : IsTruthValue d c.later
