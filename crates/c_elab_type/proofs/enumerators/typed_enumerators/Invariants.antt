use Rattle.std.proofs.Common.{◌≡◌, ◌≤◌, length, drop, map}
use Rattle.c_tree.specs.Declarations.{view_enumerator}
use Rattle.c_elab_type.specs.Enumerations.{typed_enumerators}
use Rattle.c_elab_type.proofs.enumerators.typed_enumerators.Given as goal

abbrev pub invariant-loop-enumerator : goal.invariant-loop-enumerator
invariant-loop-enumerator l = record {
  gives : typed_enumerators l.region l.scope l.previous (map view_enumerator (drop l.enumerator-index l.enumerators))
      ≡ typed_enumerators l.region l.initial.scope l.initial.previous (map view_enumerator l.enumerators);
  within : l.region.outer ≤ length l.scope.bindings;
  same : l.scope.records ≡ l.initial.scope.records;
}
