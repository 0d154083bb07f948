use Rattle.std.proofs.Common.{◌≡◌, ℕ, true}
use Rattle.word_dag.specs.Meaning.{width, value, holds}
use Rattle.word_dag.specs.Growth.{Within}
use Rattle.rewritten_nodes.proofs.folding.implies.Given as goal

abbrev pub invariant-descending : goal.invariant-descending
invariant-descending l = record {
  there : Within l.dag l.left;
  bit : width l.dag l.left ≡ 1;
  implied : (v : ℕ → ℕ) → holds (value v l.dag l.fn.condition) ≡ true → holds (value v l.dag l.left) ≡ true;
}
