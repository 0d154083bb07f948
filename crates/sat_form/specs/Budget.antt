-- What a search may count as a unit of its budget, and when it has spent one.
use Rattle.std.specs.Prelude.{◌≡◌, ◌≢◌, ◌↔◌, ℕ, ◌≤◌, List, [], ◌∷◌, ◌++◌, map, length, Contains, IsSomeAnd}
use Rattle.std.specs.List.{filter_map}
use Rattle.sat_form.specs.Satisfaction.{Literal, inverse_of}
use Rattle.sat_form.specs.Propagation.{PropagatesTo, Conflicts, negation_of}
use Rattle.sat_form.specs.Databases.{added_clauses, database, live_clause}
use Rattle.sat_form.specs.declared.logs.Entry.{Entry}
use Rattle.sat_form.specs.declared.logs.Entry.TheVariants.{Added, Deleted}

-- no variable stands in the clause twice
abbrev pub HasDistinctVariables : List Literal → Type 0
HasDistinctVariables clause =
    (front : List Literal) (l : Literal) (middle : List Literal) (m : Literal) (back : List Literal) →
    clause ≡ front ++ l ∷ (middle ++ m ∷ back) → l.variable ≢ m.variable

-- the literal stands in one of the clauses
abbrev pub StandsIn : List (List Literal) → Literal → Type 0
StandsIn clauses l = (c : List Literal) × Contains clauses c × Contains c l

-- where the literals of `held` are true, one literal of the clause is left, which has no value; each other is false
pub record Leaves (held : List Literal) (clause : List Literal) (l : Literal) : Type 0 where
  pub stands : Contains clause l
  pub not_true : Contains held l → ⊥
  pub not_false : Contains held (inverse_of l) → ⊥
  pub others : (m : Literal) → Contains clause m → m ≢ l → Contains held (inverse_of m)

-- where the literals of `held` are true, each of the clauses in turn gives a literal, these in order, and the last clause
-- has none left
abbrev pub IsConflictBy : List Literal → List (List Literal) → List Literal → Type 0
IsConflictBy held [] given = ⊥
IsConflictBy held (c ∷ cs) [] = (cs ≡ []) × ((m : Literal) → Contains c m → Contains held (inverse_of m))
IsConflictBy held (c ∷ cs) (l ∷ given) = Leaves held c l × IsConflictBy (l ∷ held) cs given

-- the inverse of each literal that a clause gave stands in a later one
abbrev pub AreUsed : List (List Literal) → List Literal → Type 0
AreUsed clauses [] = Unit {0}
AreUsed [] (l ∷ given) = ⊥
AreUsed (c ∷ cs) (l ∷ given) = StandsIn cs (inverse_of l) × AreUsed cs given

-- the live clauses that the hints name, in order
abbrev pub named_clauses : List (List Literal) → List Entry → List ℕ → List (List Literal)
named_clauses form before hints = filter_map (live_clause form before) hints

-- for one of its literals, propagation where its other literals are false gives neither that literal nor a conflict
abbrev pub IsNews : List (List Literal) → List Literal → Type 0
IsNews clauses clause =
    (front : List Literal) × (l : Literal) × (back : List Literal) × (clause ≡ front ++ l ∷ back)
    × (PropagatesTo (clauses ++ negation_of (front ++ back)) l → ⊥)
    × (Conflicts (clauses ++ negation_of (front ++ back)) → ⊥)

-- an added clause is a unit of the budget, behind these entries
pub record IsUnit (form : List (List Literal)) (before : List Entry) (clause : List Literal) (hints : List ℕ) : Type 0 where
  pub some : clause ≢ []
  pub distinct : HasDistinctVariables clause
  -- 1. where the clause is false, the named clauses come to a conflict, and give these literals on the way
  pub given : List Literal
  pub conflict : IsConflictBy (map inverse_of clause) (named_clauses form before hints) given
  -- 2. each of its literals stands in a named clause, and the inverse of each given literal in a later one
  pub stands : (l : Literal) → Contains clause l → StandsIn (named_clauses form before hints) l
  pub used : AreUsed (named_clauses form before hints) given
  -- 3. propagation doesn't say by itself what the clause says
  pub news : IsNews (database form before) clause
  -- 4. propagation alone gives none of its literals a value
  pub not_true : (l : Literal) → Contains clause l → PropagatesTo (database form before) l → ⊥
  pub not_false : (l : Literal) → Contains clause l → PropagatesTo (database form before) (inverse_of l) → ⊥

-- the clause has a literal that propagation from the clauses gives
abbrev pub IsGiven : List (List Literal) → List Literal → Type 0
IsGiven clauses clause = (l : Literal) × Contains clause l × PropagatesTo clauses l

-- an entry that a budget allows behind these: an added clause is a unit; a deleted one was added, is live, and has a
-- literal that propagation from the other clauses alone gives
abbrev pub IsAllowed : List (List Literal) → List Entry → Entry → Type 0
IsAllowed form before (Added clause hints) = IsUnit form before clause hints
IsAllowed form before (Deleted number) =
    (length form ≤ number) × IsSomeAnd (live_clause form before number) (IsGiven (database form (before ++ Deleted number ∷ [])))

-- each entry is one that a budget allows behind those before it
abbrev pub AreAllowed : List (List Literal) → List Entry → Type 0
AreAllowed form log = (before : List Entry) (e : Entry) (after : List Entry) → log ≡ before ++ e ∷ after → IsAllowed form before e

-- the last entry adds a clause
abbrev pub EndsAdding : List Entry → Type 0
EndsAdding log = (before : List Entry) × (clause : List Literal) × (hints : List ℕ) × (log ≡ before ++ Added clause hints ∷ [])

-- the log has spent a budget of n units: it has exactly n, the last entry is one, and propagation doesn't refute the form
pub record IsSpent (form : List (List Literal)) (log : List Entry) (n : ℕ) : Type 0 where
  pub allowed : AreAllowed form log
  pub count : length (added_clauses log) ≡ n
  pub ends : EndsAdding log
  pub undecided : Conflicts (database form log) → ⊥

-- the clauses have the same literals
abbrev pub HaveSameLiterals : List Literal → List Literal → Type 0
HaveSameLiterals c d = (l : Literal) → Contains c l ↔ Contains d l
