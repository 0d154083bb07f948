use Rattle.std.proofs.Common.{drop}
use Rattle.c_types.specs.Types.{views}
use Rattle.c_types.proofs.MemberLoops.{Going}
use Rattle.c_types.proofs.extents.struct_extent.Given as goal

abbrev pub invariant-loop-member : goal.invariant-loop-member
invariant-loop-member l = Going l.layouts.done (views l.members) (views (drop l.member-index l.members)) l.filled.end l.filled.alignment l.filled.offsets.items
