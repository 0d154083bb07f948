use Rattle.std.proofs.Common.{sym, ◌∙◌}
use Rattle.goto_prog.proofs.Stepping.{stops_check}
use Rattle.goto_prog.proofs.runner.Runner.check.Goals as goal

pub returns-in-Some : goal.returns-in-Some
returns-in-Some c = stops_check c.args.self.now c.args.i c.requires.found c.args.condition c.in-Some.class c.requires.is (sym c.condition_class.ensures ∙ c.in-Some.is)
