-- Quotients and remainders that literals give.
use Rattle.std.specs.Prelude.{◌≡◌, ℕ, ◌+◌, ◌*◌, ◌^◌, ◌<◌, Bool, List, length, if◌then◌else◌}
use Rattle.sat_form.specs.Satisfaction.{Literal, Form, literal_value, Satisfies, IsWithin}
use Rattle.sat_form.specs.Numbers.{bit_value, value_of}
use Rattle.words.specs.Operators.{word_negation, unsigned_quotient, unsigned_remainder, signed_quotient, signed_remainder}

-- the quotient of words, of signed ones or of unsigned ones
abbrev pub quotient_by : Bool → ℕ → ℕ → ℕ → ℕ
quotient_by signed w a b = if signed then signed_quotient w a b else unsigned_quotient a b

-- the remainder of words, of signed ones or of unsigned ones
abbrev pub remainder_by : Bool → ℕ → ℕ → ℕ → ℕ
remainder_by signed w a b = if signed then signed_remainder w a b else unsigned_remainder a b

-- quotient and rest are those of the dividend, where the divisor isn't 0
pub record IsDivided (form : Form) (dividend divisor quotient rest : List Literal) : Type 0 where
  pub count : length rest ≡ length divisor
  pub within : IsWithin form.variables rest
  pub is : (x : ℕ → Bool) → Satisfies x form.clauses → 0 < value_of divisor x → (value_of quotient x * value_of divisor x + value_of rest x ≡ value_of dividend x) × (value_of rest x < value_of divisor x)

-- fits and next are quotient and remainder of twice the rest and one bit more, by a divisor b above the rest that the complement gives at one bit more than its width
pub record IsStep (form : Form) (bit : Literal) (rest complement : List Literal) (fits : Literal) (next : List Literal) : Type 0 where
  pub fits_within : fits.variable < form.variables
  pub count : length next ≡ length rest
  pub within : IsWithin form.variables next
  pub is : (x : ℕ → Bool) → Satisfies x form.clauses → (b : ℕ) → value_of complement x + b + 1 ≡ 2 ^ (length rest + 1) → b < 2 ^ length rest → value_of rest x < b → (bit_value (literal_value x fits) * b + value_of next x ≡ bit_value (literal_value x bit) + 2 * value_of rest x) × (value_of next x < b)

-- the number, or its negation where `by` is true
abbrev pub negated_if : Bool → ℕ → ℕ → ℕ
negated_if by w n = if by then word_negation w n else n
