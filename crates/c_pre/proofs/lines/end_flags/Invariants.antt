use Rattle.std.proofs.Common.{◌≡◌, ◌≤◌, ◌+◌, length, reverse}
use Rattle.c_pre.specs.Conditionals.{ends}
use Rattle.c_pre.specs.Views.{end_flags}
use Rattle.c_pre.proofs.Flags.{behind}
use Rattle.c_pre.proofs.lines.end_flags.Given as goal

abbrev pub invariant-loop-at : goal.invariant-loop-at
invariant-loop-at l = record {
  few : l.ends + l.at ≤ length l.lines;
  flags : reverse l.flags.items ≡ end_flags l.bytes (behind l.at l.lines);
  ends : l.ends ≡ ends l.bytes (behind l.at l.lines);
}

abbrev pub decreases-loop-at : goal.decreases-loop-at
decreases-loop-at l = l.at
