use Rattle.std.proofs.Common.{◌∙◌}
use Rattle.c_interp.proofs.Threads.{state_same}
use Rattle.c_interp.proofs.thread.Thread.step.Goals as goal

pub returns-in_err-make_room-clause-same : goal.returns-in_err-make_room-clause-same
returns-in_err-make_room-clause-same c = state_same c.args.self.now c.make_room.new.self c.make_room.ensures.program c.make_room.ensures.state

pub returns-in_err-plan-clause-same : goal.returns-in_err-plan-clause-same
returns-in_err-plan-clause-same c = state_same c.args.self.now c.make_room.new.self c.make_room.ensures.program c.make_room.ensures.state

pub returns-clause-same : goal.returns-clause-same
returns-clause-same c = c.follow.ensures.same ∙ state_same c.args.self.now c.make_room.new.self c.make_room.ensures.program c.make_room.ensures.state
