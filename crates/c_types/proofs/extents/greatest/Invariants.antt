use Rattle.std.proofs.Common.{drop}
use Rattle.c_types.specs.Types.{views}
use Rattle.c_types.proofs.MemberLoops.{Above}
use Rattle.c_types.proofs.extents.greatest.Given as goal

abbrev pub invariant-loop-member : goal.invariant-loop-member
invariant-loop-member l = Above l.layouts.done (views l.members) (views (drop l.member-index l.members)) l.size l.own
