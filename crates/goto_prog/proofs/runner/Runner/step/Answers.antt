use Rattle.std.proofs.Common.{sym, ◌∙◌}
use Rattle.goto_prog.proofs.Stepping.{stops_behind}
use Rattle.goto_prog.proofs.runner.Runner.step.Goals as goal

pub returns-in-None-clause-steps : goal.returns-in-None-clause-steps
returns-in-None-clause-steps c = rw c.new.ensures.value (stops_behind c.args.self.now (sym c.instruction.ensures.found ∙ c.in-None.is))
