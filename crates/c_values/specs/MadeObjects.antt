-- The object that a thread makes of bytes.
use Rattle.std.specs.Prelude.{ℕ, ◌-◌, ◌%◌, ◌^◌, Bool, true, List, [], map, length, take}
use Rattle.actions.specs.StoredObject.{StoredObject, stored}

-- bytes as an object holds them: no more than its size can tell in 32 bits, and each a number below 256. The blocks of a program are so
-- already, so it changes none of them (`held_same`).
abbrev pub held_bytes : List ℕ → List ℕ
held_bytes bs = map (λ b. b % 256) (take (2 ^ 32 - 1) bs)

-- a live object of these bytes
abbrev pub made_of : (readonly heap : Bool) → List ℕ → StoredObject
made_of readonly heap bs = stored (length (held_bytes bs)) [] true readonly heap (held_bytes bs)
