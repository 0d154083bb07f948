use Rattle.std.proofs.Common.{sym, ◌∙◌}
use Rattle.goto_prog.specs.ProgramViews.{bounded_by}
use Rattle.goto_prog.proofs.WalkSteps.{stops_calculated}
use Rattle.goto_prog.proofs.activation.Activation.calculation.Goals as goal

pub returns-in-Some-clause-steps : goal.returns-in-Some-clause-steps
returns-in-Some-clause-steps c =
    stops_calculated (bounded_by c.args.program.now) c.args.self.now c.args.i c.requires.found c.in-Some.class c.requires.calculation (sym c.broken_calculation.ensures ∙ c.in-Some.is)
