use Rattle.std.proofs.Common.{◌≡◌, ◌≤◌, ◌-◌, length, drop}
use Rattle.c_types.specs.Types.{views}
use Rattle.c_scope.specs.Functions.{same_types}
use Rattle.c_scope.proofs.comparing.same_types.Given as goal

abbrev pub invariant-loop-at : goal.invariant-loop-at
invariant-loop-at l = record {
  within : l.at ≤ length l.a;
  alike : same_types (views (drop l.at l.a)) (views (drop l.at l.b)) ≡ same_types (views l.a) (views l.b);
}

abbrev pub decreases-loop-at : goal.decreases-loop-at
decreases-loop-at l = length l.a - l.at
