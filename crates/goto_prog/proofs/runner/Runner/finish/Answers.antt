use Rattle.goto_prog.proofs.Stepping.{takes_exit}
use Rattle.goto_prog.proofs.runner.Runner.finish.Goals as goal

pub returns : goal.returns
returns c = rw c.end.ensures (takes_exit c.args.self.now c.args.i c.requires.found c.args.answer.now c.args.words c.requires.fits c.requires.is)
