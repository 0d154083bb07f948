-- A machine word as whole numbers, and the number that its bits mean (C11 6.2.6.2).
use Rattle.std.specs.Prelude.{ℕ, ◌-◌, ◌^◌, ◌<◌, ◌≤◌, ℤ, pos, ◌-ℤ◌, nat_lt, if◌then◌else◌}

-- what contracts see of a `Word`
pub record BitVector : Type 0 where
  pub bits : ℕ
  pub width : ℕ

-- what is true of each `Word`
pub record IsWord (w : BitVector) : Type 0 where
  pub positive : 1 ≤ w.width
  pub at_most_64 : w.width ≤ 64
  pub within : w.bits < 2 ^ w.width

-- the word of this width with these bits
abbrev pub word : ℕ → ℕ → BitVector
word width bits = record { bits = bits; width = width }

-- bits in two's complement: those below 2 ^ (w - 1) mean themselves, the others 2 ^ w less
unfoldable pub signed_value : ℕ → ℕ → ℤ
signed_value w a = if nat_lt a (2 ^ (w - 1)) then pos a else (pos a -ℤ pos (2 ^ w))
