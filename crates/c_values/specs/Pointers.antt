-- Pointers that are moved (C11 6.5.6p8, p9): the object's number stays, and so the offset may be anything.
use Rattle.std.specs.Prelude.{ℕ, ◌+◌, ◌%◌, ◌^◌, ℤ, pos, ◌+ℤ◌, ◌*ℤ◌, int_le, Bool, ◌&&◌}
use Rattle.words.specs.Operators.{wrapped}
use Rattle.c_types.specs.declared.integers.IntegerType.TheVariants.{Long}
use Rattle.core_tree.specs.declared.operators.ArithmeticOperator.TheVariants.{Divide, Subtract}
use Rattle.core_tree.specs.Operations.{arithmetic_value}
use Rattle.actions.specs.Pointer.{object_of, offset_of}
use Rattle.c_values.specs.Variables.{pointer_to}

-- a pointer with another offset, which is a whole number; modulo 2 ^ 32
abbrev pub pointer_at : ℕ → ℤ → ℕ
pointer_at p offset = pointer_to (object_of p) (wrapped 32 offset)

-- so many bytes further on, modulo 2 ^ 32
abbrev pub further : ℕ → ℕ → ℕ
further p offset = pointer_to (object_of p) ((offset_of p + offset) % 2 ^ 32)

-- an offset is from 0 to a size
abbrev pub in_range : ℤ → ℕ → Bool
in_range offset size = int_le (pos 0) offset && int_le offset (pos size)

-- the offset of an element from that of the first one
abbrev pub offset_by : (offset : ℕ) → (index stride : ℤ) → ℤ
offset_by offset index stride = pos offset +ℤ index *ℤ stride

-- how many elements of so many bytes lie between two offsets, as numbers of type long
abbrev pub elements_between : (p q stride : ℕ) → ℕ
elements_between p q stride = arithmetic_value Divide Long (arithmetic_value Subtract Long (offset_of p) (offset_of q)) stride
