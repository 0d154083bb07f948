use Rattle.std.proofs.Common.{sym, ◌∙◌}
use Rattle.goto_prog.specs.ProgramViews.{bounded_by}
use Rattle.goto_prog.proofs.WalkSteps.{stops_assume}
use Rattle.goto_prog.proofs.activation.Activation.assumption.Goals as goal

pub returns-then-is_zero : goal.returns-then-is_zero
returns-then-is_zero c =
    stops_assume (bounded_by c.args.program.now) c.args.self.now c.args.i c.requires.found c.args.operand c.requires.is (sym c.is_zero.ensures ∙ c.if-is_zero.true)
