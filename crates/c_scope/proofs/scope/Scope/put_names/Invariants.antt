use Rattle.std.proofs.Common.{◌≡◌, ◌++◌, true, length, map}
use Rattle.c_scope.specs.Scopes.{binding, are_there}
use Rattle.c_scope.proofs.scope.Scope.put_names.Given as goal

abbrev pub invariant-left : goal.invariant-left
invariant-left l = record {
  there : are_there (length l.self.variables) (length l.self.objects) (length l.self.types) (length l.self.records.declared) (map (λ b. binding b.0.items b.1) l.left.items) ≡ true;
  put : record l.self { bindings = map (λ b. binding b.0.items b.1) l.left.items ++ l.self.bindings } ≡ record l.initial.self { bindings = map (λ b. binding b.0.items b.1) l.initial.left.items ++ l.initial.self.bindings };
}

abbrev pub decreases-left : goal.decreases-left
decreases-left l = length l.left.items
