-- How a form grows by calls.
use Rattle.std.specs.Prelude.{◌≡◌, ℕ, ◌≤◌, Bool, List, ◌++◌, drop, length}
use Rattle.sat_form.specs.Satisfaction.{Literal, Form, Satisfies, AreWithin, AgreeBelow}
use Rattle.gate_bits.specs.Growth.{known_clauses}

-- The new form is the old one with variables and clauses at its end. Each assignment that satisfies the old form, changed at the new variables alone, satisfies the new one. The rest of the old form has no part in that: each assignment that satisfies the known clause, changed at the new variables alone, satisfies it and the clauses that were added. So these rule out no values of the old variables beyond those that the known clause rules out. And they leave none of the new variables free, those between its gates included: two assignments that satisfy them and agree on the old variables agree on the new ones.
pub record Grows (old new : Form) : Type 0 where
  pub added : List (List Literal)
  pub clauses : new.clauses ≡ old.clauses ++ added
  pub variables : old.variables ≤ new.variables
  pub within : AreWithin new.variables added
  pub extends : (x : ℕ → Bool) → Satisfies x old.clauses → (y : ℕ → Bool) × AgreeBelow old.variables x y × Satisfies y new.clauses
  pub freely : (x : ℕ → Bool) → Satisfies x (known_clauses old.clauses) → (y : ℕ → Bool) × AgreeBelow old.variables x y × Satisfies y (known_clauses old.clauses ++ added)
  pub determined : (x y : ℕ → Bool) → AgreeBelow old.variables x y → Satisfies x added → Satisfies y added → AgreeBelow new.variables x y

-- the clauses behind the old form's, over the new form's variables
abbrev pub added_to : Form → Form → Form
added_to old new = record { variables = new.variables; clauses = drop (length old.clauses) new.clauses }

-- ---- a part that gates make before it is added

-- the part has the form's variables and says no more than the form's known clause
pub record IsPart (form part : Form) : Type 0 where
  pub variables : part.variables ≡ form.variables
  pub form_within : AreWithin form.variables form.clauses
  pub within : AreWithin part.variables part.clauses
  pub is : (x : ℕ → Bool) → Satisfies x (known_clauses form.clauses) → Satisfies x part.clauses
