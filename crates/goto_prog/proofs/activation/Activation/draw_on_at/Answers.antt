use Rattle.goto_prog.specs.ProgramViews.{bounded_by}
use Rattle.goto_prog.proofs.Exchanges.{not_fill}
use Rattle.goto_prog.proofs.WalkSteps.{others_go_on}
use Rattle.goto_prog.proofs.activation.Activation.draw_on_at.Goals as goal

pub returns-in_default : goal.returns-in_default
returns-in_default c = others_go_on (bounded_by c.args.program.now) c.args.self.now c.args.i c.requires.found c.args.words (not_fill c.args.i.operation c.in_default.not-Fill)
