use Rattle.std.proofs.Common.{◌≡◌, ◌++◌, List, length, map}
use Rattle.c_types.specs.Types.{view as type_view}
use Rattle.c_elab_type.specs.Initializers.{Made, view_made, view_found, parts_from}
use Rattle.c_elab_type.proofs.items.parts_from.Given as goal

abbrev pub invariant-items : goal.invariant-items
invariant-items l =
    (behind : List Made) × (map view_made l.initial.left.items ≡ map view_made l.left.items ++ behind)
    × (view_found l.found.parts.items l.found.broken ≡ parts_from l.object_entry l.layouts (type_view l.type_) (length l.left.items) behind)

abbrev pub decreases-items : goal.decreases-items
decreases-items l = length l.left.items
