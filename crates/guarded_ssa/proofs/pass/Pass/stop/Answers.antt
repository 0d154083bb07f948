use Rattle.guarded_ssa.proofs.Passing.{passes_stopped, stopped_in}
use Rattle.guarded_ssa.proofs.pass.Pass.stop.Goals as goal

pub tell_and_go-requires-clause-event : goal.tell_and_go-requires-clause-event
tell_and_go-requires-clause-event c = stopped_in _ c.args.self.now.trees c.args.plan.now.code.now c.args.here.slot _ _ c.requires.reached.slot

pub returns-clause-passes : goal.returns-clause-passes
returns-clause-passes c =
    passes_stopped _ _ _ _ _ _ c.args.dag.now c.tell_and_go.new.dag c.args.here.slot c.args.self.now _ c.requires.reached.within c.requires.reached.slot _ c.requires.stops c.in_ok-tell_and_go.ensures.tells
