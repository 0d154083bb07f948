-- The inputs: for each thread its list of words, numbers below 2 ^ 64. A thread without an entry has none.
use Rattle.std.specs.Prelude.{ℕ, List, [], unwrap_or}
use Rattle.std.specs.Ordering.{nat_cmp}
use Rattle.std.specs.Map.{lookup}
use Rattle.std.specs.BTreeMap.{is_at}

abbrev pub InputLists : Type 0
InputLists = List (ℕ × List ℕ)

abbrev pub words_of : InputLists → ℕ → List ℕ
words_of inputs t = unwrap_or (lookup (is_at (nat_cmp t)) inputs) []
