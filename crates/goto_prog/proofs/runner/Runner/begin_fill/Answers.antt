use Rattle.goto_prog.proofs.Stepping.{fill_begins}
use Rattle.goto_prog.proofs.runner.Runner.begin_fill.Goals as goal

pub returns : goal.returns
returns c = fill_begins c.args.self.now c.args.i c.requires.found c.args.block c.args.count c.requires.is c.fill.new.self c.fill.result c.fill.ensures
