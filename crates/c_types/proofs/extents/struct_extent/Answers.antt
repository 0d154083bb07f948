use Rattle.std.proofs.Common.{List, subst, ◌+◌, drop}
use Rattle.c_types.specs.Types.{CType, views, view}
use Rattle.c_types.proofs.MemberLoops.{Going, rest_more, going_begins, struct_refused}
use Rattle.c_types.proofs.extents.struct_extent.Goals as goal

pub loop-member-init : goal.loop-member-init
loop-member-init c = going_begins c.args.layouts.now.done (views c.args.members.now) c.new.result.items c.new.ensures.items

pub returns-in-Err-clause-refused : goal.returns-in-Err-clause-refused
returns-in-Err-clause-refused c = struct_refused c.args.layouts.now.done (views c.args.members.now) (view c.member-item.result)
    (views (drop (c.loop-member.member-index + 1) c.args.members.now)) c.loop-member.filled c.in-Err.refusal
    (subst (λ (rest : List CType). Going c.args.layouts.now.done (views c.args.members.now) rest c.loop-member.filled.end c.loop-member.filled.alignment c.loop-member.filled.offsets.items)
    (rest_more c.args.members.now c.loop-member.member-index c.member-item.result c.loop-member-test.true c.member-item.is) c.loop-member.invariant)
    c.in-Err.ensures.refused
