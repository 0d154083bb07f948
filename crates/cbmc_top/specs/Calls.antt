-- What the calls of the outside gave.
use Rattle.std.specs.Prelude.{◌≡◌, ℕ, ◌<◌, ◌≤◌, Bool, true, false, List, Option, IfSome, length, take}

-- these bytes are the first ones of a file, where it is told what it holds
pub record AreFirst (held : Option (List ℕ)) (bytes : List ℕ) : Type 0 where
  pub few : length bytes ≤ 1048577
  pub told : IfSome held (λ b. (length bytes ≤ length b) × (bytes ≡ take (length bytes) b))

-- The first bytes of a file were read, up to one more than the limit.
pub record WasRead (held : Option (List ℕ)) (bytes : List ℕ) : Type 0 where
  pub few : length bytes ≤ 1048577
  pub told : IfSome held (λ b. bytes ≡ take 1048577 b)

-- where the first bytes had been read, more of them are now, or all
abbrev pub HasReadMore : Option (List ℕ) → List ℕ → List ℕ → Bool → Type 0
HasReadMore held before now true = (length before < length now) × (AreFirst held before → AreFirst held now)
HasReadMore held before now false = AreFirst held before → WasRead held now
