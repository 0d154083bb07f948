use Rattle.std.proofs.Common.{◌≡◌, ◌++◌, true, length, map, reverse}
use Rattle.std.specs.List.{list_all}
use Rattle.core_tree.specs.Trees.{view_statics}
use Rattle.core_tree.specs.Typed.{is_static}
use Rattle.c_elab_flow.proofs.Statics.{static_as}
use Rattle.c_elab_flow.proofs.files.static_objects.Given as goal

abbrev pub invariant-objects : goal.invariant-objects
invariant-objects l =
    (map (static_as l.scope.records.done) (reverse l.initial.left.items) ≡ view_statics l.objects.items ++ map (static_as l.scope.records.done) (reverse l.left.items))
    × (list_all (is_static 0 0) (view_statics l.objects.items) ≡ true)

abbrev pub decreases-objects : goal.decreases-objects
decreases-objects l = length l.left.items
