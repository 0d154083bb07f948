use Rattle.std.proofs.Common.{sym, ◌∙◌}
use Rattle.goto_prog.proofs.Stepping.{stops_calculated}
use Rattle.goto_prog.proofs.runner.Runner.calculation.Goals as goal

pub returns-in-Some-clause-steps : goal.returns-in-Some-clause-steps
returns-in-Some-clause-steps c =
    stops_calculated c.args.self.now c.args.i c.requires.found c.in-Some.class c.requires.calculation (sym c.broken_calculation.ensures ∙ c.in-Some.is)
