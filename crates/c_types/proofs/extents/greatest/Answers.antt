use Rattle.c_types.specs.Types.{views}
use Rattle.c_types.proofs.MemberLoops.{above_begins}
use Rattle.c_types.proofs.extents.greatest.Goals as goal

pub loop-member-init : goal.loop-member-init
loop-member-init c = above_begins c.args.layouts.now.done (views c.args.members.now)
