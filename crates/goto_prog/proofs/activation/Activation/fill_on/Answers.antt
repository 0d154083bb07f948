use Rattle.goto_prog.specs.ProgramViews.{bounded_by}
use Rattle.goto_prog.proofs.WalkSteps.{fill_goes_with}
use Rattle.goto_prog.proofs.activation.Activation.fill_on.Goals as goal

pub returns : goal.returns
returns c = fill_goes_with (bounded_by c.args.program.now) c.args.self.now c.args.i c.requires.found c.args.into.0 c.args.into.1 c.args.words c.requires.is c.fill.new.self c.fill.result c.fill.ensures
