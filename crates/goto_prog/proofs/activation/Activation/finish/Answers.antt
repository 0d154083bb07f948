use Rattle.goto_prog.specs.ProgramViews.{bounded_by}
use Rattle.goto_prog.proofs.WalkAnswers.{takes_exit}
use Rattle.goto_prog.proofs.activation.Activation.finish.Goals as goal

pub returns : goal.returns
returns c = takes_exit (bounded_by c.args.program.now) c.args.self.now c.args.i c.requires.found c.args.answer.now c.args.words c.requires.allowed c.requires.is
