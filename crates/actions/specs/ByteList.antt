-- Lists of bytes: numbers below 256.
use Rattle.std.specs.Prelude.{ℕ, ◌+◌, Bool, nat_lt, List, ◌++◌, length, take, drop}
use Rattle.std.specs.List.{list_all}
use Rattle.std.specs.Int.{w32, from_le_bytes}

abbrev pub are_bytes : List ℕ → Bool
are_bytes bs = list_all (λ b. nat_lt b 256) bs

-- bytes in the place of as many from the offset `at` on
abbrev pub put_at : ℕ → List ℕ → List ℕ → List ℕ
put_at at new old = take at old ++ (new ++ drop (at + length new) old)

-- the number in the cell of a mutex, the lowest byte first
abbrev pub mutex_number : List ℕ → ℕ
mutex_number bytes = from_le_bytes w32 bytes
