use Rattle.goto_prog.proofs.Exchanges.{not_fill}
use Rattle.goto_prog.proofs.Stepping.{fill_goes_with, others_go_on}
use Rattle.goto_prog.proofs.runner.Runner.draw_on_at.Goals as goal

pub returns-in-Fill : goal.returns-in-Fill
returns-in-Fill c = fill_goes_with c.args.self.now c.args.i c.requires.found c.in-Fill.block c.in-Fill.count c.args.words c.in-Fill.is c.fill.new.self c.fill.result c.fill.ensures

pub returns-in_default : goal.returns-in_default
returns-in_default c = others_go_on c.args.self.now c.args.i c.requires.found c.args.words (not_fill c.args.i.operation c.in_default.not-Fill)
