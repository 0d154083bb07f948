-- Sums of bits and of numbers that literals give.
use Rattle.std.specs.Prelude.{◌≡◌, ℕ, ◌+◌, ◌*◌, ◌^◌, ◌<◌, Bool, List, length}
use Rattle.sat_form.specs.Satisfaction.{Literal, Form, literal_value, Satisfies, IsWithin}
use Rattle.sat_form.specs.Numbers.{bit_value, value_of}

-- sum and carry are the two bits of the number of true literals among a, b and c
pub record IsBitSum (form : Form) (a b c sum carry : Literal) : Type 0 where
  pub sum_within : sum.variable < form.variables
  pub carry_within : carry.variable < form.variables
  pub is : (x : ℕ → Bool) → Satisfies x form.clauses → bit_value (literal_value x sum) + 2 * bit_value (literal_value x carry) ≡ bit_value (literal_value x a) + bit_value (literal_value x b) + bit_value (literal_value x c)

-- sum is the low bits of a + b + start, and carry the bit above them
pub record IsSum (form : Form) (a b : List Literal) (start : Literal) (sum : List Literal) (carry : Literal) : Type 0 where
  pub count : length sum ≡ length a
  pub within : IsWithin form.variables sum
  pub carry_within : carry.variable < form.variables
  pub is : (x : ℕ → Bool) → Satisfies x form.clauses → value_of sum x + 2 ^ length a * bit_value (literal_value x carry) ≡ value_of a x + value_of b x + bit_value (literal_value x start)
