use Rattle.guarded_ssa.proofs.Stays.{pass_stays, slot_grows}
use Rattle.guarded_ssa.proofs.Passing.{passes_assumed, assumed_in}
use Rattle.guarded_ssa.proofs.pass.Pass.assume.Goals as goal

pub tell_and_go-requires-clause-reached : goal.tell_and_go-requires-clause-reached
tell_and_go-requires-clause-reached c = record {
  plan = c.requires.reached.plan;
  room = c.requires.reached.room;
  within = pass_stays _ _ c.zero_test.ensures.extends _ _ c.requires.reached.within;
  slot = slot_grows _ _ c.zero_test.ensures.extends _ _ _ c.requires.reached.slot;
}

pub tell_and_go-requires-clause-event : goal.tell_and_go-requires-clause-event
tell_and_go-requires-clause-event c = assumed_in _ _ _ c.args.plan.now.code.now c.args.here.slot _ _ _ _ c.zero_test.ensures.extends c.requires.reached.slot c.in_ok-failing.ensures.made

pub returns-clause-passes : goal.returns-clause-passes
returns-clause-passes c =
    passes_assumed _ _ _ _ _ _ c.args.dag.now c.zero_test.new.dag c.tell_and_go.new.dag c.args.here.slot c.args.self.now _ c.zero_test.ensures.extends c.requires.reached.within c.requires.reached.slot c.args.operand c.register-node.result c.in_ok-failing.failing c.in_ok-failing.ensures.made c.register-node.ensures.value
    c.in_ok-tell_and_go.ensures.tells
