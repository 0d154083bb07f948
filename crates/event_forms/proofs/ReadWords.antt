-- The words that answer a read: how many they are.
use Rattle.std.proofs.Common.{◌≡◌, ℕ, zero, suc, ◌+◌, ◌-◌, ◌*◌, ◌/◌, ◌<◌, ◌≤◌, List, length, refl, sym, ap, ◌∙◌, arith}
use Rattle.std.proofs.lemmas.List.{length-map}
use Rattle.c_values.specs.Variables.{word_count}
use Rattle.word_dag.specs.declared.nodes.Id.{Id}
use Rattle.word_dag.specs.declared.nodes.Node.{Node}
use Rattle.word_dag.specs.Meaning.{width}
use Rattle.event_forms.specs.Runs.{word_widths}
use Rattle.event_forms.specs.Forms.{AreWords}

-- where words are still to come, bytes are left
pub bytes_left : (count k left : ℕ) → left ≡ count - 8 * k → k < word_count count → 1 ≤ left
bytes_left count k left is h = (let lt : k < (count + 7) / 8 = h in omega (arith, lt, is))

widths_length : (n left : ℕ) → length (word_widths n left) ≡ n
widths_length zero left = refl
widths_length (suc n) left = ap suc (widths_length n (left - 8))

pub words_length : (d : List Node) (count : ℕ) (words : List Id) → AreWords d count words → length words ≡ word_count count
words_length d count words h = sym (length-map words (width d)) ∙ ap length h.widths ∙ widths_length (word_count count) count
