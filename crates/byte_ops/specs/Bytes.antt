-- Bytes of a block from an offset on, the lowest first: the number that they are, and the block with others in their place.
use Rattle.std.specs.Prelude.{ℕ, suc, ◌+◌, ◌-◌, ◌&&◌, nat_le, nat_lt, List, [], ◌∷◌, length, drop, slice_index, if◌then◌else◌}
use Rattle.value_nodes.specs.Bytes.{sum_of_bytes}

-- the number that so many bytes from an offset on are; a byte past the block is 0
abbrev pub selected : List ℕ → ℕ → ℕ → ℕ
selected block offset n = sum_of_bytes (drop offset block) n

-- the byte at a place, which was old, once these bytes are written from an offset on
abbrev pub written_at : ℕ → List ℕ → ℕ → ℕ → ℕ
written_at offset bytes place old = if nat_le offset place && nat_lt place (offset + length bytes) then slice_index bytes (place - offset) else old

-- so the bytes of a block of which the first stands at this place
abbrev pub updated_from : ℕ → ℕ → List ℕ → List ℕ → List ℕ
updated_from place offset bytes [] = []
updated_from place offset bytes (b ∷ block) = written_at offset bytes place b ∷ updated_from (suc place) offset bytes block

-- a block with these bytes in the place of as many from an offset on; what would stand past the block is left out
abbrev pub updated : ℕ → List ℕ → List ℕ → List ℕ
updated offset bytes block = updated_from 0 offset bytes block
