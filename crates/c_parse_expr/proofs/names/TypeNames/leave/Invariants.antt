use Rattle.std.proofs.Common.{◌≡◌, ◌≤◌, ◌-◌, length, drop}
use Rattle.c_parse_expr.proofs.names.TypeNames.leave.Given as goal

abbrev pub invariant-loop-self : goal.invariant-loop-self
invariant-loop-self l = record {
  kept : l.self ≡ drop (length l.initial.self - length l.self) l.initial.self;
  mark : l.mark ≤ length l.self;
  fewer : length l.self ≤ length l.initial.self;
}

abbrev pub decreases-loop-self : goal.decreases-loop-self
decreases-loop-self l = length l.self
