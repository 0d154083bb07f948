use Rattle.std.proofs.Common.{drop}
use Rattle.guarded_ssa.proofs.Meeting.{Joining}
use Rattle.guarded_ssa.proofs.registers.merged.Given as goal

abbrev pub invariant-loop-k : goal.invariant-loop-k
invariant-loop-k l = Joining l.fn.dag l.dag l.fn.trees l.trees l.plan.types.items l.plan.until.items l.plan.owner.items l.meeting.place l.meeting.test l.meeting.first l.meeting.second l.root (drop l.k l.cells.items)
