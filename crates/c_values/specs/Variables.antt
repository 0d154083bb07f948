-- The variables of a thread: a block of bytes for each, the lowest byte first (C11 6.2.6.1, System V ABI for AMD64).
use Rattle.std.specs.Prelude.{ℕ, ◌+◌, ◌-◌, ◌*◌, ◌/◌, ◌^◌, min, List, [], ◌++◌, map, length, take, drop, replicate, slice_index_or, slice_set}
use Rattle.std.specs.Int.{Width, w8, w16, w32, w64, to_le_bytes, from_le_bytes}
use Rattle.c_types.specs.declared.integers.IntegerType.{IntegerType}
use Rattle.c_types.specs.declared.integers.IntegerType.TheVariants as types
use Rattle.c_types.specs.Integers.{bytes}
use Rattle.core_tree.specs.Operations.{read_bits}

-- by number
abbrev pub Variables : Type 0
Variables = List (List ℕ)

-- how wide an object of the type is
abbrev pub storage : IntegerType → Width
storage types.Bool = w8
storage types.Char = w8
storage types.SignedChar = w8
storage types.UnsignedChar = w8
storage types.Short = w16
storage types.UnsignedShort = w16
storage types.Int = w32
storage types.UnsignedInt = w32
storage types.Long = w64
storage types.UnsignedLong = w64
storage types.LongLong = w64
storage types.UnsignedLongLong = w64

-- ---- bytes

-- the lowest bytes of a number, so many of 8, the lowest first
abbrev pub low_bytes : ℕ → ℕ → List ℕ
low_bytes count bits = take count (to_le_bytes w64 bits)

-- bytes in the place of as many from the offset `at` on
abbrev pub put_at : ℕ → List ℕ → List ℕ → List ℕ
put_at at new old = take at old ++ (new ++ drop (at + length new) old)

-- so many bytes that are 0
abbrev pub zeros : ℕ → List ℕ
zeros count = replicate count 0

-- the number of this type that bytes are, of which it takes the first
abbrev pub number_of : IntegerType → List ℕ → ℕ
number_of t block = read_bits t (from_le_bytes (storage t) block)

-- the number of this type that stands at an offset of bytes
abbrev pub number_at : IntegerType → ℕ → List ℕ → ℕ
number_at t offset block = number_of t (drop offset block)

-- ---- objects with an address: a pointer has the object's number in the high 32 bits, an offset into it in the low 32

abbrev pub pointer_to : ℕ → ℕ → ℕ
pointer_to object offset = object * 2 ^ 32 + offset

-- ---- draws: an object is drawn in words of 8 bytes, the last of the bytes that are left

-- how many words so many bytes are drawn in
abbrev pub word_count : ℕ → ℕ
word_count size = (size + 7) / 8

-- how many bytes the word from an offset on has
abbrev pub drawn_count : ℕ → ℕ → ℕ
drawn_count size offset = min 8 (size - offset)

-- ---- variables

abbrev pub block_of : Variables → ℕ → List ℕ
block_of vs v = slice_index_or vs v []

abbrev pub put_bytes : Variables → ℕ → ℕ → List ℕ → Variables
put_bytes vs v offset new = slice_set vs v (put_at offset new (block_of vs v))

-- each byte of the variable, of which there are so many, is 0
abbrev pub cleared : Variables → ℕ → ℕ → Variables
cleared vs v size = slice_set vs v (zeros size)

-- a read gives the number that the bytes are
abbrev pub read_variable : Variables → ℕ → ℕ → IntegerType → ℕ
read_variable vs v offset t = number_at t offset (block_of vs v)

-- a write leaves the low bytes of these bits
abbrev pub write_variable : Variables → ℕ → ℕ → IntegerType → ℕ → Variables
write_variable vs v offset t bits = put_bytes vs v offset (low_bytes (bytes t) bits)

-- variables of these sizes before the function's body: each byte is 0
abbrev pub first_variables : List ℕ → Variables
first_variables sizes = map zeros sizes
