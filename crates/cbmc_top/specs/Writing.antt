-- A text that is written piece by piece.
use Rattle.std.specs.Prelude.{◌≡◌, ℕ, List, ◌++◌, Option}
use Rattle.outside.specs.Sink.{appended}

-- a front of the text was taken, and the rest is left
pub record IsWriting (before now : Option (List ℕ)) (text rest : List ℕ) : Type 0 where
  pub front : List ℕ
  pub whole : text ≡ front ++ rest
  pub taken : now ≡ appended before front
