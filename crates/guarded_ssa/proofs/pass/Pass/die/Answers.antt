use Rattle.word_dag.proofs.Grown.{extends_itself}
use Rattle.guarded_ssa.proofs.Passing.{passes_die, event_in}
use Rattle.guarded_ssa.proofs.pass.Pass.die.Goals as goal

pub tell_and_go-requires-clause-event : goal.tell_and_go-requires-clause-event
tell_and_go-requires-clause-event c = event_in _ _ _ c.args.plan.now.code.now c.args.here.slot _ _ _ (extends_itself _) c.requires.reached.slot c.pointer-at.ensures.word

pub returns-clause-passes : goal.returns-clause-passes
returns-clause-passes c = passes_die _ _ _ _ _ _ c.args.pointer c.args.dag.now _ c.args.here.slot _ c.args.self.now _ c.requires.reached.within c.requires.reached.slot c.pointer-at.ensures.value c.in_ok-tell_and_go.ensures.tells
