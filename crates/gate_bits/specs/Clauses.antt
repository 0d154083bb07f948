-- Tseitin's clauses of a gate with output o.
use Rattle.std.specs.Prelude.{List, [], ◌∷◌, map}
use Rattle.sat_form.specs.Satisfaction.{Literal, inverse_of}

-- o is a and b
abbrev pub and_clauses : Literal → Literal → Literal → List (List Literal)
and_clauses a b o =
    (a ∷ inverse_of o ∷ [])
    ∷ (b ∷ inverse_of o ∷ [])
    ∷ (inverse_of a ∷ inverse_of b ∷ o ∷ [])
    ∷ []

-- each of the literals is true where o is
abbrev pub each_clauses : List Literal → Literal → List (List Literal)
each_clauses [] o = []
each_clauses (l ∷ ls) o = (l ∷ inverse_of o ∷ []) ∷ each_clauses ls o

-- o is true where each of the literals is
abbrev pub all_clauses : List Literal → Literal → List (List Literal)
all_clauses ls o = (o ∷ map inverse_of ls) ∷ each_clauses ls o

-- o is y where t is true, else n
abbrev pub choice_clauses : Literal → Literal → Literal → Literal → List (List Literal)
choice_clauses t y n o =
    (inverse_of t ∷ inverse_of y ∷ o ∷ [])
    ∷ (inverse_of t ∷ y ∷ inverse_of o ∷ [])
    ∷ (t ∷ inverse_of n ∷ o ∷ [])
    ∷ (t ∷ n ∷ inverse_of o ∷ [])
    ∷ []

-- o is true where at least two of a, b and c are
abbrev pub most_clauses : Literal → Literal → Literal → Literal → List (List Literal)
most_clauses a b c o =
    (inverse_of a ∷ inverse_of b ∷ o ∷ [])
    ∷ (inverse_of a ∷ inverse_of c ∷ o ∷ [])
    ∷ (inverse_of b ∷ inverse_of c ∷ o ∷ [])
    ∷ (a ∷ b ∷ inverse_of o ∷ [])
    ∷ (a ∷ c ∷ inverse_of o ∷ [])
    ∷ (b ∷ c ∷ inverse_of o ∷ [])
    ∷ []
