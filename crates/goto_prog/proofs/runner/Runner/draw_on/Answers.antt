use Rattle.std.proofs.Common.{sym, ◌∙◌}
use Rattle.goto_prog.proofs.Stepping.{none_go_on}
use Rattle.goto_prog.proofs.runner.Runner.draw_on.Goals as goal

pub returns-in-None : goal.returns-in-None
returns-in-None c = none_go_on c.args.words c.args.self.now (sym c.instruction.ensures.found ∙ c.in-None.is)
