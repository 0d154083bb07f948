use Rattle.std.proofs.Common.{◌≡◌, drop}
use Rattle.c_types.specs.Types.{views}
use Rattle.c_types.specs.Layouts.{are_complete}
use Rattle.c_types.proofs.layouts.all_complete.Given as goal

abbrev pub invariant-loop-member : goal.invariant-loop-member
invariant-loop-member l = are_complete l.layouts.done (views (drop l.member-index l.members)) ≡ are_complete l.layouts.done (views l.members)
