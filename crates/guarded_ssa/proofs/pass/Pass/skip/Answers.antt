use Rattle.guarded_ssa.proofs.Passing.{passes_skip}
use Rattle.guarded_ssa.proofs.pass.Pass.skip.Goals as goal

pub returns-clause-passes : goal.returns-clause-passes
returns-clause-passes c = passes_skip _ _ _ _ _ _ _ _ _ c.args.here.slot _ _ c.requires.within c.arrive.ensures.extends c.in_ok-arrive.ensures.arrives
