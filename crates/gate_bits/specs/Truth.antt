-- What literals of a form mean: a value in each assignment that satisfies the form.
use Rattle.std.specs.Prelude.{◌≡◌, ℕ, ◌<◌, Bool, not, ◌&&◌, ◌||◌, List, length, map, if◌then◌else◌}
use Rattle.sat_form.specs.Satisfaction.{Literal, Form, literal_value, Satisfies, IsWithin}
use Rattle.sat_form.specs.Numbers.{value_of}

-- the literal is the form's, and has this truth in each assignment that satisfies the form
pub record IsTruth (form : Form) (literal : Literal) (truth : (ℕ → Bool) → Bool) : Type 0 where
  pub within : literal.variable < form.variables
  pub is : (x : ℕ → Bool) → Satisfies x form.clauses → literal_value x literal ≡ truth x

-- the literals, the lowest bit first, are the form's, are `width` many, and give this number in each assignment that satisfies the form
pub record IsNumber (form : Form) (width : ℕ) (literals : List Literal) (number : (ℕ → Bool) → ℕ) : Type 0 where
  pub count : length literals ≡ width
  pub within : IsWithin form.variables literals
  pub is : (x : ℕ → Bool) → Satisfies x form.clauses → value_of literals x ≡ number x

-- the literals are the form's, are `width` many, and have these truths in each assignment that satisfies the form
pub record AreTruths (form : Form) (width : ℕ) (literals : List Literal) (truths : (ℕ → Bool) → List Bool) : Type 0 where
  pub count : length literals ≡ width
  pub within : IsWithin form.variables literals
  pub is : (x : ℕ → Bool) → Satisfies x form.clauses → map (literal_value x) literals ≡ truths x

-- exactly one of the two
abbrev pub differs : Bool → Bool → Bool
differs x y = if x then not y else y

-- at least two of the three
abbrev pub most : Bool → Bool → Bool → Bool
most x y z = if x then (y || z) else (y && z)

-- the literal has this truth in each assignment that satisfies the form
abbrev pub IsFixed : Form → Literal → Bool → Type 0
IsFixed form literal truth = (x : ℕ → Bool) → Satisfies x form.clauses → literal_value x literal ≡ truth
