-- What the type of options keeps beside its bounds.
use Rattle.std.specs.Prelude.{ℕ, Bool, true, ◌&&◌, nat_le, Option, Some, None}

-- from 1 to 16 threads
abbrev pub is_generated : Option ℕ → Bool
is_generated None = true
is_generated (Some n) = nat_le 1 n && nat_le n 16
