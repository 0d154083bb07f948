-- Offsets so far back or on, as whole numbers.
use Rattle.std.specs.Prelude.{ℕ, ◌-◌, Bool, not, ◌&&◌, nat_le, if◌then◌else◌}

-- one of two is true, and not the other
abbrev pub differ : Bool → Bool → Bool
differ a b = if b then not a else a

-- so far on it is at most the size
abbrev pub goes_on : (offset distance size : ℕ) → Bool
goes_on offset distance size = nat_le distance size && nat_le offset (size - distance)

-- so far back it is from 0 to the size
abbrev pub goes_back : (offset distance size : ℕ) → Bool
goes_back offset distance size = nat_le distance offset && nat_le (offset - distance) size

abbrev pub stays_within : (back : Bool) (offset distance size : ℕ) → Bool
stays_within back offset distance size = if back then goes_back offset distance size else goes_on offset distance size
