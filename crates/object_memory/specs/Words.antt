-- Bytes as words of 8 bytes each, the last of the bytes that are left.
use Rattle.std.specs.Prelude.{◌≡◌, ℕ, zero, suc, ◌-◌, ◌*◌, min, List, [], ◌∷◌, ◌++◌, map, All}
use Rattle.c_values.specs.Variables.{low_bytes, word_count}
use Rattle.word_dag.specs.declared.nodes.Id.{Id}
use Rattle.word_dag.specs.declared.nodes.Node.{Node}
use Rattle.word_dag.specs.Meaning.{width}
use Rattle.word_dag.specs.Growth.{Within}

-- so many bytes of words
abbrev pub bytes_of_words : ℕ → List ℕ → List ℕ
bytes_of_words left [] = []
bytes_of_words left (w ∷ words) = low_bytes (min 8 left) w ++ bytes_of_words (left - 8) words

-- how wide so many words are
abbrev pub word_widths : (words left : ℕ) → List ℕ
word_widths zero left = []
word_widths (suc k) left = (8 * min 8 left) ∷ word_widths k (left - 8)

-- nodes that are the words of so many bytes
pub record AreWords (d : List Node) (count : ℕ) (ids : List Id) : Type 0 where
  pub there : All (Within d) ids
  pub widths : map (width d) ids ≡ word_widths (word_count count) count
