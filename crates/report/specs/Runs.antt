-- Runs of bytes.
use Rattle.std.specs.Prelude.{ℕ, Bool, true, false, not, ◌&&◌, ◌==◌, List, [], ◌∷◌}
use Rattle.std.specs.Char.{is_ascii_digit}
use Rattle.report.specs.declared.runs.Run.{Run}
use Rattle.report.specs.declared.runs.Run.TheVariants as runs

-- all bytes pass the test
abbrev pub passes : (ℕ → Bool) → List ℕ → Bool
passes p [] = true
passes p (c ∷ cs) = p c && passes p cs

-- there is a first byte, and it doesn't pass the test
abbrev pub fails : (ℕ → Bool) → List ℕ → Bool
fails p [] = false
fails p (c ∷ cs) = not (p c)

-- a byte of a run: a digit, or any but one
abbrev pub is_of : Run → ℕ → Bool
is_of runs.Digits c = is_ascii_digit c
is_of (runs.UpTo end) c = not (c == end)
