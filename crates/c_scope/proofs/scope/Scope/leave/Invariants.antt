use Rattle.std.proofs.Common.{◌≡◌, ◌≤◌, ◌-◌, length, drop}
use Rattle.c_scope.proofs.scope.Scope.leave.Given as goal

abbrev pub invariant-loop-self : goal.invariant-loop-self
invariant-loop-self l = record {
  kept : l.self ≡ record l.initial.self { bindings = drop (length l.initial.self.bindings - length l.self.bindings) l.initial.self.bindings };
  outer : l.outer ≤ length l.self.bindings;
  fewer : length l.self.bindings ≤ length l.initial.self.bindings;
}

abbrev pub decreases-loop-self : goal.decreases-loop-self
decreases-loop-self l = length l.self.bindings
