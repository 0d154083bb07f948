-- What is true of each code: the registers that it names are there with the types of its operations, the bytes of blocks that it names are there, and its jumps stay within it.
use Rattle.std.specs.Prelude.{ℕ, ◌+◌, ◌^◌, ◌*◌, Option, Some, None, ◌==◌, Bool, true, false, ◌&&◌, List, [], ◌∷◌, nat_lt, nat_le, length, slice_index, slice_index_or}
use Rattle.c_types.specs.declared.integers.IntegerType.{IntegerType}
use Rattle.c_types.specs.declared.integers.IntegerType.TheVariants as types
use Rattle.c_types.specs.Integers.{width, bytes, is_signed, same_integer}
use Rattle.core_tree.specs.declared.operators.ArithmeticOperator.{ArithmeticOperator}
use Rattle.core_tree.specs.declared.operators.ArithmeticOperator.TheVariants as arithmetics
use Rattle.core_tree.specs.Typed.{is_within}
use Rattle.c_values.specs.Numbers.{same_width, are_operands_of}
use Rattle.goto_prog.specs.declared.code.Condition.{Condition}
use Rattle.goto_prog.specs.declared.code.Condition.TheVariants as checks
use Rattle.goto_prog.specs.declared.code.Operation.{Operation}
use Rattle.goto_prog.specs.declared.code.Operation.TheVariants as operations
use Rattle.goto_prog.specs.declared.code.Instruction.{Instruction}

-- a register of the code, over the types of its registers
abbrev pub is_there : List IntegerType → ℕ → Bool
is_there registers r = nat_lt r (length registers)

-- a register of this type
abbrev pub is_register : List IntegerType → ℕ → IntegerType → Bool
is_register registers r t = nat_lt r (length registers) && same_integer (slice_index_or registers r types.Int) t

-- a register for pointers, and for sizes
abbrev pub is_pointer : List IntegerType → ℕ → Bool
is_pointer registers r = is_register registers r types.UnsignedLong

-- a register with so many bytes at least, and at least one
abbrev pub has_bytes : List IntegerType → ℕ → ℕ → Bool
has_bytes registers r count = nat_lt r (length registers) && nat_le 1 count && nat_le (8 * count) (width (slice_index_or registers r types.Int))

-- a block of this size, over the sizes of the blocks
abbrev pub is_block : List ℕ → ℕ → ℕ → Bool
is_block blocks b size = nat_lt b (length blocks) && size == slice_index blocks b

-- a register as wide as this type
abbrev pub is_wide : List IntegerType → ℕ → IntegerType → Bool
is_wide registers r t = nat_lt r (length registers) && same_width (slice_index_or registers r types.Int) t

-- the operators whose result may be out of range where both operands have one signed type (C11 6.5p5)
abbrev pub is_ranged : ArithmeticOperator → Bool
is_ranged arithmetics.Multiply = true
is_ranged arithmetics.Add = true
is_ranged arithmetics.Subtract = true
is_ranged _ = false

-- only signed types have a range that a result may leave
abbrev pub check_fits : List IntegerType → Condition → Bool
check_fits registers (checks.Divisor b) = is_there registers b
check_fits registers (checks.Quotient t a b) = is_signed t && is_register registers a t && is_wide registers b t
check_fits registers (checks.Range op t a b) = is_signed t && is_ranged op && is_register registers a t && is_wide registers b t
check_fits registers (checks.Negation t a) = is_signed t && is_register registers a t
check_fits registers (checks.Count t u count) = is_register registers count u
check_fits registers (checks.LeftShift t u a count) = is_signed t && is_register registers a t && is_register registers count u
check_fits registers (checks.Returned a) = is_there registers a
check_fits registers (checks.Within p i t n size class) = is_pointer registers p && is_register registers i t && is_pointer registers size
check_fits registers (checks.SameObject p q) = is_pointer registers p && is_pointer registers q
check_fits registers (checks.Inside p count whole) = is_pointer registers p
check_fits registers (checks.AtMost a b most) = is_pointer registers a && is_pointer registers b

-- a block, or none
abbrev pub is_some_block : List ℕ → Option ℕ → Bool
is_some_block blocks None = true
is_some_block blocks (Some b) = nat_lt b (length blocks)

-- with this many places behind it
abbrev pub operation_fits : List IntegerType → List ℕ → ℕ → Operation → Bool
operation_fits registers blocks behind (operations.Constant r bits) = is_there registers r && nat_lt bits (2 ^ width (slice_index_or registers r types.Int))
operation_fits registers blocks behind (operations.Copy r a) = is_there registers a && is_register registers r (slice_index_or registers a types.Int)
operation_fits registers blocks behind (operations.Load r t b offset) = is_register registers r t && is_within blocks b offset (bytes t)
operation_fits registers blocks behind (operations.Store b offset count a) = has_bytes registers a count && is_within blocks b offset count
operation_fits registers blocks behind (operations.Clear b size) = is_block blocks b size
operation_fits registers blocks behind (operations.CopyBytes into to from offset count) = is_within blocks into to count && is_within blocks from offset count
operation_fits registers blocks behind (operations.Convert r from to a) = is_register registers r to && is_register registers a from
operation_fits registers blocks behind (operations.Sign r op t a) = is_register registers r t && is_register registers a t
operation_fits registers blocks behind (operations.Arithmetic r op t u a b) = are_operands_of op t u && is_register registers r t && is_register registers a t && is_register registers b u
operation_fits registers blocks behind (operations.Compare r op t a b) = is_register registers r types.Int && is_register registers a t && is_register registers b t
operation_fits registers blocks behind (operations.IsZero r a) = is_register registers r types.Int && is_there registers a
operation_fits registers blocks behind (operations.Skip n) = nat_le n behind
operation_fits registers blocks behind (operations.SkipIfZero a n) = is_there registers a && nat_le n behind
operation_fits registers blocks behind (operations.Check c) = check_fits registers c
operation_fits registers blocks behind (operations.Assert a) = is_there registers a
operation_fits registers blocks behind (operations.Assume a) = is_there registers a
operation_fits registers blocks behind (operations.Draw r bits) = is_there registers r && nat_le 1 bits && nat_le bits (width (slice_index_or registers r types.Int))
operation_fits registers blocks behind (operations.ReadObject b to k offset count) = is_within blocks b to count
operation_fits registers blocks behind (operations.WriteObject k offset b from count) = is_within blocks b from count
operation_fits registers blocks behind operations.Exit = true
operation_fits registers blocks behind (operations.Fail class) = true
operation_fits registers blocks behind (operations.Use a) = is_there registers a
operation_fits registers blocks behind (operations.Call f first count into r) = nat_le (first + count) (length blocks) && nat_lt into (length blocks) && is_register registers r types.Int
operation_fits registers blocks behind (operations.Return v) = is_some_block blocks v
operation_fits registers blocks behind (operations.Move r p i t n size class) = is_pointer registers r && (is_pointer registers p && is_register registers i t && is_pointer registers size)
operation_fits registers blocks behind (operations.Offset r p count) = is_pointer registers r && is_pointer registers p
operation_fits registers blocks behind (operations.Same p q) = is_pointer registers p && is_pointer registers q
operation_fits registers blocks behind (operations.Distance r p q n) = is_register registers r types.Long && is_pointer registers p && is_pointer registers q && nat_le 1 n
operation_fits registers blocks behind (operations.Relate r op p q) = is_register registers r types.Int && is_pointer registers p && is_pointer registers q
operation_fits registers blocks behind (operations.Take b to from p count whole) = is_pointer registers p && is_within blocks b to count && is_block blocks from whole
operation_fits registers blocks behind (operations.Put b p from to count whole) = is_pointer registers p && is_within blocks from to count && is_block blocks b whole
operation_fits registers blocks behind (operations.Read b to p count) = is_pointer registers p && is_within blocks b to count
operation_fits registers blocks behind (operations.Write p b from count first) = is_pointer registers p && is_within blocks b from count
operation_fits registers blocks behind (operations.Look r p subscript) = is_pointer registers r && is_pointer registers p
operation_fits registers blocks behind (operations.Fill b r) = nat_lt b (length blocks) && is_pointer registers r
operation_fits registers blocks behind (operations.Alloc r b size readonly heap) = is_pointer registers r && nat_lt b (length blocks) && is_pointer registers size
operation_fits registers blocks behind (operations.Die p) = is_pointer registers p
operation_fits registers blocks behind (operations.Free p) = is_pointer registers p
operation_fits registers blocks behind (operations.MayFail r) = is_register registers r types.Int
operation_fits registers blocks behind (operations.Limit a b) = is_pointer registers a && is_pointer registers b

abbrev pub code_fits : List IntegerType → List ℕ → List Instruction → Bool
code_fits registers blocks [] = true
code_fits registers blocks (i ∷ code) = operation_fits registers blocks (length code) i.operation && code_fits registers blocks code
