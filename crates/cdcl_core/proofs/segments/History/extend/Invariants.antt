use Rattle.std.proofs.Common.{◌≡◌, ℕ, ◌+◌, ◌<◌, length, get_or}
use Rattle.cdcl_core.specs.Histories.{number_by}
use Rattle.cdcl_core.proofs.segments.History.extend.Given as goal

abbrev pub invariant-loop : goal.invariant-loop
invariant-loop l = record {
  same : l.self ≡ record l.fn.self { numbers = l.self.numbers; next = l.fn.self.next + l.counter };
  count : length l.self.numbers.items ≡ length l.fn.self.numbers.items + l.counter;
  numbers : (k : ℕ) → k < length l.self.numbers.items → get_or l.self.numbers.items k 0 ≡ number_by l.fn.self.numbers.items l.fn.self.next k;
}
