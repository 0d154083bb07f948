-- The operations on words bit by bit.
use Rattle.std.specs.Prelude.{ℕ, Bool, ◌&&◌, ◌||◌, bit_and, bit_or, bit_xor}
use Rattle.gate_bits.specs.Truth.{differs}
use Rattle.gate_bits.specs.declared.bits.Bitwise.{Bitwise}
use Rattle.gate_bits.specs.declared.bits.Bitwise.TheVariants.{And, Or, Xor}

-- of two bits
abbrev pub bit_by : Bitwise → Bool → Bool → Bool
bit_by And x y = x && y
bit_by Or x y = x || y
bit_by Xor x y = differs x y

-- of two numbers (C11 6.5.10p4, 6.5.12p4 and 6.5.11p4)
abbrev pub word_by : Bitwise → ℕ → ℕ → ℕ
word_by And a b = bit_and a b
word_by Or a b = bit_or a b
word_by Xor a b = bit_xor a b
