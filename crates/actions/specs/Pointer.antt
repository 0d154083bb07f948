-- A pointer is 64 bits: the number of its object in the high 32, an offset into that object in the low 32. The null pointer is 0.
use Rattle.std.specs.Prelude.{ℕ, ◌/◌, ◌%◌, ◌^◌}

abbrev pub object_of : ℕ → ℕ
object_of p = p / 2 ^ 32

abbrev pub offset_of : ℕ → ℕ
offset_of p = p % 2 ^ 32
