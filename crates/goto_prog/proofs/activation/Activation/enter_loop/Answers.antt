use Rattle.goto_prog.specs.ProgramViews.{bounded_by}
use Rattle.goto_prog.proofs.LoopSteps.{goes_into}
use Rattle.goto_prog.proofs.activation.Activation.enter_loop.Goals as goal

pub returns-clause-steps : goal.returns-clause-steps
returns-clause-steps c =
    rw c.in_ok-enter.ensures.ok (goes_into (bounded_by c.args.program.now) c.args.self.now c.args.line c.args.function c.args.number c.args.rotated c.args.nodes.now c.requires.is c.round_count-left.result c.round_count-left.ensures)
