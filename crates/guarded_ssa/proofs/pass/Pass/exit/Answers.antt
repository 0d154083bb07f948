use Rattle.guarded_ssa.proofs.Passing.{passes_exit}
use Rattle.guarded_ssa.proofs.pass.Pass.exit.Goals as goal

pub returns : goal.returns
returns c = record { passes = passes_exit _ _ _ _ _ _ _ c.args.here.slot c.args.self.now c.tell.new.self c.requires.within c.requires.slot c.in_ok-tell.ensures.events c.tell.ensures.pending c.tell.ensures.trees }
