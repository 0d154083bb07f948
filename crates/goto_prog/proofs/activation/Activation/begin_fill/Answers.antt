use Rattle.goto_prog.specs.ProgramViews.{bounded_by}
use Rattle.goto_prog.proofs.WalkSteps.{fill_goes, fill_stops}
use Rattle.goto_prog.proofs.activation.Activation.begin_fill.Goals as goal

pub returns-in-Some : goal.returns-in-Some
returns-in-Some c = fill_stops (bounded_by c.args.program.now) c.args.self.now c.args.i c.requires.found c.args.block c.args.count c.requires.is c.fill.new.self c.fill.result c.in-Some.next c.fill.ensures c.in-Some.is

pub returns-in-None : goal.returns-in-None
returns-in-None c = fill_goes (bounded_by c.args.program.now) c.args.self.now c.args.i c.requires.found c.args.block c.args.count c.requires.is c.fill.new.self c.fill.result c.fill.ensures c.in-None.is
