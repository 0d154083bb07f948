use Rattle.std.proofs.Common.{◌+◌, ◌*◌, drop}
use Rattle.c_types.specs.Types.{view, views}
use Rattle.c_types.proofs.Records.{nesting, greatest_nesting, record_nesting}
use Rattle.c_types.proofs.CellLists.{Walking, Choosing}
use Rattle.c_types.proofs.listing.+listing.Given as goal

abbrev pub decreases-cells : goal.decreases-cells
decreases-cells l = 3 * nesting l.layouts.now.done (view l.type_.now) + 1

abbrev pub decreases-append_cells : goal.decreases-append_cells
decreases-append_cells l = 3 * nesting l.layouts.now.done (view l.type_.now)

abbrev pub decreases-append_struct : goal.decreases-append_struct
decreases-append_struct l = 3 * greatest_nesting (record_nesting l.layouts.now.done) (views l.members.now) + 1

abbrev pub decreases-append_union : goal.decreases-append_union
decreases-append_union l = 3 * greatest_nesting (record_nesting l.layouts.now.done) (views l.members.now) + 1

abbrev pub decreases-append_array : goal.decreases-append_array
decreases-append_array l = 3 * nesting l.layouts.now.done (view l.element.now) + 2

abbrev pub invariant-append_struct-loop-member : goal.invariant-append_struct-loop-member
invariant-append_struct-loop-member l = Walking l.layouts.done (views l.members) (views (drop l.member-index l.members)) l.base l.end l.initial.list.items l.list.items

abbrev pub invariant-append_union-loop-member : goal.invariant-append_union-loop-member
invariant-append_union-loop-member l = Choosing l.layouts.done l.largest (views l.members) (views (drop l.member-index l.members)) l.initial.list.items l.list.items
