use Rattle.std.proofs.Common.{◌≡◌, ◌≤◌, ◌-◌, length, map, take, drop}
use Rattle.c_scope.specs.Scopes.{binding}
use Rattle.c_scope.proofs.scope.Scope.take_names.Given as goal

abbrev pub invariant-names : goal.invariant-names
invariant-names l = record {
  kept : l.self ≡ record l.initial.self { bindings = drop (length l.initial.self.bindings - length l.self.bindings) l.initial.self.bindings };
  outer : l.outer ≤ length l.self.bindings;
  fewer : length l.self.bindings ≤ length l.initial.self.bindings;
  taken : map (λ b. binding b.0.items b.1) l.names.items ≡ take (length l.initial.self.bindings - length l.self.bindings) l.initial.self.bindings;
}

abbrev pub decreases-names : goal.decreases-names
decreases-names l = length l.self.bindings
