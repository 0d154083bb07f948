-- The register that an operation sets, and to what.
use Rattle.std.specs.Prelude.{ℕ, Bool, true, false, ◌==◌, List, ◌++◌, length, take, drop}
use Rattle.core_tree.specs.Operations.{truth_bits, converted, arithmetic_value, sign_value, compared}
use Rattle.words.specs.declared.check.Class.{Class}
use Rattle.words.specs.declared.check.Class.TheVariants as classes
use Rattle.c_types.specs.declared.integers.IntegerType.TheVariants.{UnsignedLong}
use Rattle.actions.specs.Pointer.{offset_of}
use Rattle.c_values.specs.Pointers.{pointer_at, further, elements_between}
use Rattle.c_values.specs.Variables.{read_variable, block_of, put_bytes}
use Rattle.goto_prog.specs.declared.code.Condition.{Condition}
use Rattle.goto_prog.specs.declared.code.Condition.TheVariants as checks
use Rattle.goto_prog.specs.declared.code.Operation.{Operation}
use Rattle.goto_prog.specs.declared.code.Operation.TheVariants as operations
use Rattle.goto_prog.specs.Meaning.{Memory, register, with_blocks, offset_moved}

abbrev pub sets_register : Operation → Bool
sets_register (operations.Constant r bits) = true
sets_register (operations.Copy r a) = true
sets_register (operations.Load r t b offset) = true
sets_register (operations.Convert r from to a) = true
sets_register (operations.Sign r op t a) = true
sets_register (operations.Arithmetic r op t u a b) = true
sets_register (operations.Compare r op t a b) = true
sets_register (operations.IsZero r a) = true
sets_register (operations.Move r p i t n size class) = true
sets_register (operations.Offset r p count) = true
sets_register (operations.Distance r p q n) = true
sets_register (operations.Relate r op p q) = true
sets_register _ = false

abbrev pub into_of : Operation → ℕ
into_of (operations.Constant r bits) = r
into_of (operations.Copy r a) = r
into_of (operations.Load r t b offset) = r
into_of (operations.Convert r from to a) = r
into_of (operations.Sign r op t a) = r
into_of (operations.Arithmetic r op t u a b) = r
into_of (operations.Compare r op t a b) = r
into_of (operations.IsZero r a) = r
into_of (operations.Move r p i t n size class) = r
into_of (operations.Offset r p count) = r
into_of (operations.Distance r p q n) = r
into_of (operations.Relate r op p q) = r
into_of _ = 0

abbrev pub result_of : Operation → Memory → ℕ
result_of (operations.Constant r bits) m = bits
result_of (operations.Copy r a) m = register m a
result_of (operations.Load r t b offset) m = read_variable m.blocks b offset t
result_of (operations.Convert r from to a) m = converted from to (register m a)
result_of (operations.Sign r op t a) m = sign_value op t (register m a)
result_of (operations.Arithmetic r op t u a b) m = arithmetic_value op t (register m a) (register m b)
result_of (operations.Compare r op t a b) m = truth_bits (compared op t (register m a) (register m b))
result_of (operations.IsZero r a) m = truth_bits (register m a == 0)
result_of (operations.Move r p i t n size class) m = pointer_at (register m p) (offset_moved m p i t n)
result_of (operations.Offset r p count) m = further (register m p) count
result_of (operations.Distance r p q n) m = elements_between (register m p) (register m q) n
result_of (operations.Relate r op p q) m = truth_bits (compared op UnsignedLong (offset_of (register m p)) (offset_of (register m q)))
result_of _ m = 0

-- ---- checks

-- the class that a check breaks
abbrev pub class_of : Condition → Class
class_of (checks.Divisor b) = classes.Division
class_of (checks.Quotient t a b) = classes.Overflow
class_of (checks.Range op t a b) = classes.Overflow
class_of (checks.Negation t a) = classes.Overflow
class_of (checks.Count t u count) = classes.Shift
class_of (checks.LeftShift t u a count) = classes.Shift
class_of (checks.Returned a) = classes.Return
class_of (checks.Within p i t n size class) = class
class_of (checks.SameObject p q) = classes.Pointer
class_of (checks.Inside p count whole) = classes.Bounds
class_of (checks.AtMost a b most) = classes.MallocLimit

-- ---- draws of several words

-- so many of these bytes, and behind them those that were there
abbrev pub first_bytes_drawn : ℕ → List ℕ → List ℕ → List ℕ
first_bytes_drawn count new old = take count new ++ drop count (take (length new) old)

-- they stand at the front of a block
abbrev pub filled_first : (block count : ℕ) → List ℕ → Memory → Memory
filled_first b count new m = with_blocks m (put_bytes m.blocks b 0 (first_bytes_drawn count new (block_of m.blocks b)))
