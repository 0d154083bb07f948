-- Unit propagation: the least set of literals that is closed under it, conflicts, and the clauses that follow by it.
use Rattle.std.specs.Prelude.{◌≢◌, Bool, List, [], ◌∷◌, ◌++◌, map, IsTrue, Contains}
use Rattle.sat_form.specs.Satisfaction.{Literal, inverse_of}

-- where the literals of the set are true, each literal of the clause is false
abbrev pub IsFalsified : (Literal → Bool) → List Literal → Type 0
IsFalsified set clause = (m : Literal) → Contains clause m → IsTrue (set (inverse_of m))

-- where the literals of the set are true, each literal of the clause but l is false: the clause gives l
pub record Gives (set : Literal → Bool) (clause : List Literal) (l : Literal) : Type 0 where
  pub stands : Contains clause l
  pub others : (m : Literal) → Contains clause m → m ≢ l → IsTrue (set (inverse_of m))

-- the set has each literal that a clause gives where its literals are true
abbrev pub IsClosed : List (List Literal) → (Literal → Bool) → Type 0
IsClosed clauses set = (c : List Literal) → Contains clauses c → (l : Literal) → Gives set c l → IsTrue (set l)

-- unit propagation from the clauses gives l: the least closed set has it, and so has each
abbrev pub PropagatesTo : List (List Literal) → Literal → Type 0
PropagatesTo clauses l = (set : Literal → Bool) → IsClosed clauses set → IsTrue (set l)

-- a clause is falsified where the literals of the set are true
abbrev pub HasFalsified : List (List Literal) → (Literal → Bool) → Type 0
HasFalsified clauses set = (c : List Literal) × Contains clauses c × IsFalsified set c

-- unit propagation from the clauses comes to a conflict: the least closed set falsifies a clause, and so does each
abbrev pub Conflicts : List (List Literal) → Type 0
Conflicts clauses = (set : Literal → Bool) → IsClosed clauses set → HasFalsified clauses set

-- that a clause is false, as clauses: the inverse of each of its literals alone
abbrev pub negation_of : List Literal → List (List Literal)
negation_of clause = map (λ l. inverse_of l ∷ []) clause

-- the clause follows by reverse unit propagation: together with its negation the clauses come to a conflict
abbrev pub Follows : List (List Literal) → List Literal → Type 0
Follows clauses clause = Conflicts (clauses ++ negation_of clause)
