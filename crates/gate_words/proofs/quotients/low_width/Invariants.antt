use Rattle.std.proofs.Common.{◌-◌, ◌≡◌, ◌≤◌, ◌++◌, length, take, replicate}
use Rattle.gate_words.proofs.quotients.low_width.Given as goal

abbrev pub invariant-loop-width : goal.invariant-loop-width
invariant-loop-width l = record {
  positive : 1 ≤ l.width;
  within : l.width ≤ length l.fn.a;
  a : l.fn.a ≡ take l.width l.fn.a ++ replicate (length l.fn.a - l.width) l.fn.zero;
  b : l.fn.b ≡ take l.width l.fn.b ++ replicate (length l.fn.a - l.width) l.fn.zero;
}

abbrev pub decreases-loop-width : goal.decreases-loop-width
decreases-loop-width l = l.width
