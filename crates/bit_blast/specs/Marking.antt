-- Marks that are set one after another.
use Rattle.std.specs.Prelude.{ℕ, Bool, true, List, [], ◌∷◌, slice_set}

-- the marks, with those at these places set
abbrev pub with_marks : List Bool → List ℕ → List Bool
with_marks marks [] = marks
with_marks marks (j ∷ js) = with_marks (slice_set marks j true) js
