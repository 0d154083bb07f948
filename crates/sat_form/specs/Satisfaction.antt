-- Literals, clauses and forms of propositional logic, and which assignments satisfy them.
use Rattle.std.specs.Prelude.{◌≡◌, ℕ, ◌+◌, ◌*◌, ◌<◌, nat_eq, Bool, false, not, List, IsTrue, if◌then◌else◌, slice_index_or}
use Rattle.std.specs.List.{list_any, list_all, AllByRecursion}

-- a variable, counted from 0, or its negation
pub record Literal : Type 0 where
  pub variable : ℕ
  pub negated : Bool

-- the literal that is true where l is false
abbrev pub inverse_of : Literal → Literal
inverse_of l = record { variable = l.variable; negated = not l.negated }

-- a literal's place among all literals, in the order of the variables and the plain one before the negated one
abbrev pub index_of : Literal → ℕ
index_of l = 2 * l.variable + (if l.negated then 1 else 0)

-- a conjunction of clauses over the variables below `variables`; a clause is the disjunction of its literals
pub record Form : Type 0 where
  pub variables : ℕ
  pub clauses : List (List Literal)

-- whether a literal is true
abbrev pub literal_value : (ℕ → Bool) → Literal → Bool
literal_value a l = if l.negated then not (a l.variable) else a l.variable

-- whether a clause has a true literal
abbrev pub clause_value : (ℕ → Bool) → List Literal → Bool
clause_value a clause = list_any (literal_value a) clause

-- each clause has a true literal
abbrev pub Satisfies : (ℕ → Bool) → List (List Literal) → Type 0
Satisfies a clauses = IsTrue (list_all (clause_value a) clauses)

-- the assignment that gives the variables from 0 on these values, and false to every other
abbrev pub assignment_of : List Bool → ℕ → Bool
assignment_of values variable = slice_index_or values variable false

-- the literals' variables are below n
abbrev pub IsWithin : ℕ → List Literal → Type 0
IsWithin n literals = AllByRecursion (λ l. l.variable < n) literals

-- the variables of the clauses' literals are below n
abbrev pub AreWithin : ℕ → List (List Literal) → Type 0
AreWithin n clauses = AllByRecursion (IsWithin n) clauses

-- the assignments give the variables below n the same values
abbrev pub AgreeBelow : ℕ → (ℕ → Bool) → (ℕ → Bool) → Type 0
AgreeBelow n a b = (v : ℕ) → v < n → a v ≡ b v

-- the assignment, with another value for one variable
abbrev pub with_value : (ℕ → Bool) → ℕ → Bool → ℕ → Bool
with_value a variable value v = if nat_eq v variable then value else a v
