-- What the operators of typed trees give, and the check that they break (C11 6.3.1, 6.5): over the bits of values and their types.
use Rattle.std.specs.Prelude.{ℕ, ℤ, pos, ◌==◌, Bool, not, ◌&&◌, ◌||◌, int_lt, int_le, bit_and, bit_or, bit_xor, Option, Some, None, if◌then◌else◌}
use Rattle.words.specs.BitVector.{signed_value}
use Rattle.words.specs.Operators.{wrapped, word_sum, word_difference, word_product, word_negation, word_complement, left_shift, unsigned_quotient, unsigned_remainder, logical_shift, signed_quotient, signed_remainder, arithmetic_shift, sum_fits, difference_fits, product_fits, left_shift_fits}
use Rattle.words.specs.declared.check.Class.{Class}
use Rattle.words.specs.declared.check.Class.TheVariants as classes
use Rattle.c_types.specs.declared.integers.IntegerType.{IntegerType}
use Rattle.c_types.specs.declared.integers.IntegerType.TheVariants as types
use Rattle.c_types.specs.Integers.{width, is_signed, same_integer}
use Rattle.core_tree.specs.declared.operators.ArithmeticOperator.{ArithmeticOperator}
use Rattle.core_tree.specs.declared.operators.ArithmeticOperator.TheVariants as arithmetics
use Rattle.core_tree.specs.declared.operators.Comparison.{Comparison}
use Rattle.core_tree.specs.declared.operators.Comparison.TheVariants as comparisons
use Rattle.core_tree.specs.declared.operators.SignOperator.{SignOperator}
use Rattle.core_tree.specs.declared.operators.SignOperator.TheVariants as signs
use Rattle.core_tree.specs.declared.operators.StepOperator.{StepOperator}
use Rattle.core_tree.specs.declared.operators.StepOperator.TheVariants as steps

-- ---- values

-- the whole number that bits of a type mean (C11 6.2.6.2)
abbrev pub number : IntegerType → ℕ → ℤ
number t bits = if is_signed t then signed_value (width t) bits else pos bits

-- the truth of a test
abbrev pub is_true : ℕ → Bool
is_true bits = not (bits == 0)

abbrev pub truth_bits : Bool → ℕ
truth_bits b = if b then 1 else 0

-- to _Bool whether it isn't 0; to another type the number modulo 2 ^ width (C11 6.3.1.2, 6.3.1.3)
abbrev pub converted : IntegerType → IntegerType → ℕ → ℕ
converted from to bits = if same_integer to types.Bool then truth_bits (is_true bits) else wrapped (width to) (number from bits)

-- what a read of a place of this type gives: any nonzero _Bool is 1
abbrev pub read_bits : IntegerType → ℕ → ℕ
read_bits t bits = if same_integer t types.Bool then truth_bits (is_true bits) else bits

-- how many bits a draw of this type takes from the inputs
abbrev pub drawn_width : IntegerType → ℕ
drawn_width t = if same_integer t types.Bool then 1 else width t

-- ---- checks, and the values where none breaks

abbrev pub unless : Bool → Class → Option Class
unless holds c = if holds then None else Some c

-- a signed result has to fit
abbrev pub overflows : Bool → Bool → Option Class
overflows signed fits = unless (not signed || fits) classes.Overflow

-- by 0, or the least value by -1 (C11 6.5.5p5, p6)
abbrev pub division_check : IntegerType → ℕ → ℕ → Option Class
division_check t a b =
    if b == 0 then Some classes.Division else overflows (is_signed t) (not ((a == word_negation (width t) a) && not (a == 0) && (b == word_complement (width t) 0)))

-- a count that is negative or at least the width; a signed left shift of a negative number or one that doesn't fit (C11 6.5.7p3, p4)
abbrev pub count_check : IntegerType → IntegerType → ℕ → Option Class
count_check t u count = unless (int_le (pos 0) (number u count) && int_lt (number u count) (pos (width t))) classes.Shift

abbrev pub left_shift_check : IntegerType → IntegerType → ℕ → ℕ → Option Class
left_shift_check t u a count = unless (int_le (pos 0) (number u count) && int_lt (number u count) (pos (width t)) && (not (is_signed t) || left_shift_fits (width t) a count)) classes.Shift

-- the check that an operation on a of type t and b of type u breaks
abbrev pub arithmetic_check : ArithmeticOperator → IntegerType → IntegerType → ℕ → ℕ → Option Class
arithmetic_check arithmetics.Multiply t u a b = overflows (is_signed t) (product_fits (width t) a b)
arithmetic_check arithmetics.Divide t u a b = division_check t a b
arithmetic_check arithmetics.Remainder t u a b = division_check t a b
arithmetic_check arithmetics.Add t u a b = overflows (is_signed t) (sum_fits (width t) a b)
arithmetic_check arithmetics.Subtract t u a b = overflows (is_signed t) (difference_fits (width t) a b)
arithmetic_check arithmetics.ShiftLeft t u a b = left_shift_check t u a b
arithmetic_check arithmetics.ShiftRight t u a b = count_check t u b
arithmetic_check arithmetics.And t u a b = None
arithmetic_check arithmetics.Xor t u a b = None
arithmetic_check arithmetics.Or t u a b = None

abbrev pub arithmetic_value : ArithmeticOperator → IntegerType → ℕ → ℕ → ℕ
arithmetic_value arithmetics.Multiply t a b = word_product (width t) a b
arithmetic_value arithmetics.Divide t a b = if is_signed t then signed_quotient (width t) a b else unsigned_quotient a b
arithmetic_value arithmetics.Remainder t a b = if is_signed t then signed_remainder (width t) a b else unsigned_remainder a b
arithmetic_value arithmetics.Add t a b = word_sum (width t) a b
arithmetic_value arithmetics.Subtract t a b = word_difference (width t) a b
arithmetic_value arithmetics.ShiftLeft t a b = left_shift (width t) a b
arithmetic_value arithmetics.ShiftRight t a b = if is_signed t then arithmetic_shift (width t) a b else logical_shift a b
arithmetic_value arithmetics.And t a b = bit_and a b
arithmetic_value arithmetics.Xor t a b = bit_xor a b
arithmetic_value arithmetics.Or t a b = bit_or a b

-- unary `-` is 0 less the number
abbrev pub sign_check : SignOperator → IntegerType → ℕ → Option Class
sign_check signs.Plus t a = None
sign_check signs.Minus t a = overflows (is_signed t) (difference_fits (width t) 0 a)
sign_check signs.Complement t a = None

abbrev pub sign_value : SignOperator → IntegerType → ℕ → ℕ
sign_value signs.Plus t a = a
sign_value signs.Minus t a = word_negation (width t) a
sign_value signs.Complement t a = word_complement (width t) a

-- `++` adds 1, `--` subtracts it
abbrev pub step_operation : StepOperator → ArithmeticOperator
step_operation steps.Increment = arithmetics.Add
step_operation steps.Decrement = arithmetics.Subtract

abbrev pub compared : Comparison → IntegerType → ℕ → ℕ → Bool
compared comparisons.Less t a b = int_lt (number t a) (number t b)
compared comparisons.Greater t a b = int_lt (number t b) (number t a)
compared comparisons.LessEqual t a b = int_le (number t a) (number t b)
compared comparisons.GreaterEqual t a b = int_le (number t b) (number t a)
compared comparisons.Equal t a b = a == b
compared comparisons.NotEqual t a b = not (a == b)
