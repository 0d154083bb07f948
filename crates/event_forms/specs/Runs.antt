-- A run of code, and the answers to its reads as words (TACAS 2004, Clarke, Kroening and Lerda: single assignments).
use Rattle.std.specs.Prelude.{ℕ, zero, suc, ◌-◌, ◌*◌, min, List, [], ◌∷◌, ◌++◌}
use Rattle.actions.specs.declared.action.Action.{Action}
use Rattle.actions.specs.declared.action.Answer.{Answer}
use Rattle.actions.specs.declared.action.Next.{Next}
use Rattle.c_values.specs.Variables.{low_bytes}

-- actions with their lines, functions and answers, and an end
pub data Run : Type 0 where
  stops : (end : Next) → Run
  asks : (action : Action) (line function : ℕ) (answer : Answer) (rest : Run) → Run

-- ---- the answer to a read is words of 8 bytes each, the last of the bytes that are left

-- so many bytes of words
abbrev pub bytes_of_words : ℕ → List ℕ → List ℕ
bytes_of_words left [] = []
bytes_of_words left (w ∷ words) = low_bytes (min 8 left) w ++ bytes_of_words (left - 8) words

-- how wide so many words are
abbrev pub word_widths : (words left : ℕ) → List ℕ
word_widths zero left = []
word_widths (suc k) left = (8 * min 8 left) ∷ word_widths k (left - 8)
