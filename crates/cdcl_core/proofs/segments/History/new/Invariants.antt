use Rattle.std.proofs.Common.{◌≡◌, ℕ, ◌<◌, length, get_or}
use Rattle.cdcl_core.proofs.segments.History.new.Given as goal

abbrev pub invariant-loop-number : goal.invariant-loop-number
invariant-loop-number l = record {
  count : length l.numbers.items ≡ l.number;
  same : (k : ℕ) → k < length l.numbers.items → get_or l.numbers.items k 0 ≡ k;
}
