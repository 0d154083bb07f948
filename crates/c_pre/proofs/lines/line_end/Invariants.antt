use Rattle.std.proofs.Common.{◌≡◌, ◌<◌, ◌≤◌, ◌-◌, length, take, drop}
use Rattle.c_pre.specs.Lines.{lines}
use Rattle.c_pre.proofs.Splitting.{glued}
use Rattle.c_pre.proofs.lines.line_end.Given as goal

abbrev pub invariant-loop-end : goal.invariant-loop-end
invariant-loop-end l = record {
  some : 0 < l.end;
  within : l.end ≤ length l.tokens;
  glued : lines l.tokens ≡ glued (take l.end l.tokens) (drop l.end l.tokens);
}

abbrev pub decreases-loop-end : goal.decreases-loop-end
decreases-loop-end l = length l.tokens - l.end
