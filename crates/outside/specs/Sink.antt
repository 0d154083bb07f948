use Rattle.std.specs.Prelude.{ℕ, List, [], ◌++◌, Option, option_map, Result, Ok, Err, ◌≡◌, ◌<◌, length, take}
use Rattle.outside.specs.declared.ends.Failed.{Failed}

-- What was taken, with a piece at its end, where it is told.
abbrev pub appended : Option (List ℕ) → List ℕ → Option (List ℕ)
appended taken piece = option_map (λ bytes. bytes ++ piece) taken

-- What a write took of a piece: as many bytes as it says, and nothing where it failed.
abbrev pub taken_from : List ℕ → Result ℕ Failed → List ℕ
taken_from piece (Ok n) = take n piece
taken_from piece (Err _) = []

-- A write failed, or took nothing of a piece that isn't empty.
abbrev pub TakesNothing : List ℕ → Result ℕ Failed → Type 0
TakesNothing piece (Ok n) = (n ≡ 0) × (0 < length piece)
TakesNothing piece (Err _) = Unit {0}
