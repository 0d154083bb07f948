use Rattle.goto_prog.specs.ProgramViews.{bounded_by}
use Rattle.goto_prog.proofs.WalkSteps.{stops_exchange}
use Rattle.goto_prog.proofs.activation.Activation.stop.Goals as goal

pub returns : goal.returns
returns c = rw c.in_ok-action.ensures (stops_exchange (bounded_by c.args.program.now) c.args.self.now c.args.i c.requires.found c.requires.exchange)
