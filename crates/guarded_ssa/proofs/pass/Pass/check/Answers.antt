use Rattle.guarded_ssa.proofs.Stays.{pass_stays, slot_grows}
use Rattle.guarded_ssa.proofs.Passing.{passes_checked, failing_in}
use Rattle.guarded_ssa.proofs.pass.Pass.check.Goals as goal

pub tell_and_go-requires-clause-reached : goal.tell_and_go-requires-clause-reached
tell_and_go-requires-clause-reached c = record {
  plan = c.requires.reached.plan;
  room = c.requires.reached.room;
  within = pass_stays _ _ c.fails.ensures.extends _ _ c.requires.reached.within;
  slot = slot_grows _ _ c.fails.ensures.extends _ _ _ c.requires.reached.slot;
}

pub tell_and_go-requires-clause-event : goal.tell_and_go-requires-clause-event
tell_and_go-requires-clause-event c = failing_in _ _ _ c.args.plan.now.code.now c.args.here.slot _ _ _ _ _ c.fails.ensures.extends c.requires.reached.slot c.in_ok-failing.ensures.made

pub returns-clause-passes : goal.returns-clause-passes
returns-clause-passes c =
    passes_checked _ _ _ _ _ _ c.args.dag.now c.fails.new.dag c.tell_and_go.new.dag c.args.here.slot c.args.self.now _ c.fails.ensures.extends c.requires.reached.within c.requires.reached.slot c.args.condition c.in_ok-failing.failing _ c.in_ok-failing.ensures.made c.requires.fits c.class_of-class.ensures
    c.in_ok-tell_and_go.ensures.tells
