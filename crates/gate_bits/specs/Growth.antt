-- How a form grows when gates are added at its end.
use Rattle.std.specs.Prelude.{◌≡◌, ℕ, ◌≤◌, Bool, List, [], ◌∷◌, ◌++◌, Option, Some, None}
use Rattle.sat_form.specs.Satisfaction.{Literal, Form, Satisfies, AreWithin, AgreeBelow}

-- the clause by which the gates know a literal: the first one where it is a single literal, else none
abbrev pub known_clauses : List (List Literal) → List (List Literal)
known_clauses ((l ∷ []) ∷ clauses) = (l ∷ []) ∷ []
known_clauses clauses = []

-- that literal
abbrev pub known_literal : List (List Literal) → Option Literal
known_literal ((l ∷ []) ∷ clauses) = Some l
known_literal clauses = None

-- that clause alone, over the form's variables
abbrev pub known_part : Form → Form
known_part form = record { variables = form.variables; clauses = known_clauses form.clauses }

-- The new form is the old one with variables and clauses at its end. Each assignment, changed at the new variables alone, satisfies the clauses that were added. They leave none of the new variables free: two assignments that satisfy them and agree on the old variables agree on the new ones.
pub record GrowsFreely (old new : Form) : Type 0 where
  pub added : List (List Literal)
  pub clauses : new.clauses ≡ old.clauses ++ added
  pub variables : old.variables ≤ new.variables
  pub within : AreWithin new.variables added
  pub extends : (x : ℕ → Bool) → (y : ℕ → Bool) × AgreeBelow old.variables x y × Satisfies y added
  pub determined : (x y : ℕ → Bool) → AgreeBelow old.variables x y → Satisfies x added → Satisfies y added → AgreeBelow new.variables x y
