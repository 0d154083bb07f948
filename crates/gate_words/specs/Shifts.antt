-- The shifts of C by a count of any size, and what they say of literals.
use Rattle.std.specs.Prelude.{◌≡◌, ℕ, ◌/◌, ◌^◌, ◌<◌, Bool, false, List, length, map}
use Rattle.sat_form.specs.Satisfaction.{Literal, Form, literal_value, Satisfies, IsWithin}
use Rattle.sat_form.specs.Numbers.{number_of, value_of}
use Rattle.words.specs.Operators.{left_shift, logical_shift, arithmetic_shift}
use Rattle.gate_bits.specs.Truth.{differs}
use Rattle.gate_words.specs.declared.shifts.Shift.{Shift}
use Rattle.gate_words.specs.declared.shifts.Shift.TheVariants.{Left, Logical, Arithmetic}

-- a number of this width shifted by k; by the width or more it is 0
abbrev pub shifted : Shift → ℕ → ℕ → ℕ → ℕ
shifted Left w a k = left_shift w a k
shifted Logical w a k = logical_shift a k
shifted Arithmetic w a k = arithmetic_shift w a k

-- the number of the literals, each turned over where `by` is true
abbrev pub turned_value : Bool → List Literal → (ℕ → Bool) → ℕ
turned_value by literals x = number_of (map (differs by) (map (literal_value x) literals))

-- the literals are the bits moved down by the count, with copies of `fill` above them
pub record IsShiftedDown (form : Form) (bits : List Literal) (fill : Literal) (moved : List Literal) (count : (ℕ → Bool) → ℕ) : Type 0 where
  pub width : length moved ≡ length bits
  pub within : IsWithin form.variables moved
  pub is : (x : ℕ → Bool) → Satisfies x form.clauses → turned_value (literal_value x fill) moved x ≡ turned_value (literal_value x fill) bits x / 2 ^ count x

-- the literals are the number shifted, where the count is below the width
pub record IsShifted (form : Form) (kind : Shift) (bits count moved : List Literal) : Type 0 where
  pub width : length moved ≡ length bits
  pub within : IsWithin form.variables moved
  pub is : (x : ℕ → Bool) → Satisfies x form.clauses → value_of count x < length bits → value_of moved x ≡ shifted kind (length bits) (value_of bits x) (value_of count x)

-- the literals are copies of `zero` and its inverse, so that they give this number where `zero` is false
pub record IsConstant (zero : Literal) (value width : ℕ) (literals : List Literal) : Type 0 where
  pub count : length literals ≡ width
  pub within : (n : ℕ) → zero.variable < n → IsWithin n literals
  pub is : (x : ℕ → Bool) → literal_value x zero ≡ false → value < 2 ^ width → value_of literals x ≡ value
