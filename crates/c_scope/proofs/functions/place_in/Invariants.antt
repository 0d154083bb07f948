use Rattle.std.proofs.Common.{◌≡◌, ◌≤◌, ◌+◌, ◌-◌, length, map, drop}
use Rattle.c_scope.specs.Scopes.{view_function_type}
use Rattle.c_scope.specs.Functions.{type_place}
use Rattle.c_scope.proofs.functions.place_in.Given as goal

abbrev pub invariant-loop-place : goal.invariant-loop-place
invariant-loop-place l = record {
  within : l.place ≤ length l.types;
  whole : l.place + type_place (map view_function_type (drop l.place l.types)) (view_function_type l.type_) ≡ type_place (map view_function_type l.types) (view_function_type l.type_);
}

abbrev pub decreases-loop-place : goal.decreases-loop-place
decreases-loop-place l = length l.types - l.place
