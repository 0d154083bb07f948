-- The absolute value of a signed number, and whether a shifted number is in range.
use Rattle.std.specs.Prelude.{◌≡◌, ℕ, ◌-◌, ◌^◌, ◌<◌, Bool, List, length, nat_lt, if◌then◌else◌}
use Rattle.sat_form.specs.Satisfaction.{Literal, Form, literal_value, Satisfies}
use Rattle.sat_form.specs.Numbers.{value_of}
use Rattle.words.specs.Operators.{word_negation, left_shift_fits}

-- the absolute value of what these bits mean in two's complement
abbrev pub magnitude : ℕ → ℕ → ℕ
magnitude w a = if nat_lt a (2 ^ (w - 1)) then a else word_negation w a

-- the literal tells whether the number, shifted to the left, is in range, where the count is below the width
pub record IsShiftInRange (form : Form) (bits count : List Literal) (fits : Literal) : Type 0 where
  pub within : fits.variable < form.variables
  pub is : (x : ℕ → Bool) → Satisfies x form.clauses → value_of count x < length bits → literal_value x fits ≡ left_shift_fits (length bits) (value_of bits x) (value_of count x)
