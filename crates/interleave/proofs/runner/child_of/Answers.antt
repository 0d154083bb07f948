use Rattle.std.proofs.Common.{[], sym}
use Rattle.interleave.proofs.Members.{create_here, can_start, child_none, child_some}
use Rattle.interleave.proofs.runner.child_of.Goals as goal

pub child-requires : goal.child-requires
child-requires g c = can_start (g.M.Machine.thread c.in-Some.runner.now.machine).program _ c.args.function c.args.v (create_here g.M.Machine.thread c.args.runners.now.entries c.args.t c.args.function c.args.v c.in-Some.runner.now (sym c.in-Some.ensures.value) c.requires) ((g.met.M.Machine.valid c.in-Some.runner.now.machine).itself.creates [])

pub returns-in-None : goal.returns-in-None
returns-in-None g c = child_none g.M.Machine.thread c.args.runners.now.entries c.args.t c.args.function c.args.v (sym c.in-None.ensures.value)

pub returns-in_ok-child-in-Some : goal.returns-in_ok-child-in-Some
returns-in_ok-child-in-Some g c = child_some g.M.Machine.thread c.args.runners.now.entries c.args.t c.args.function c.args.v c.in-Some.runner.now _ (sym c.in-Some.ensures.value) c.in_ok-child-in-Some.ensures
