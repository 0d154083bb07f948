use Rattle.goto_prog.proofs.Stepping.{shape_of_exchange, takes_exchange}
use Rattle.goto_prog.proofs.runner.Runner.receive_answer.Goals as goal

pub take_answer-requires-clause-shape : goal.take_answer-requires-clause-shape
take_answer-requires-clause-shape c = shape_of_exchange c.args.self.now c.args.i c.requires.found c.args.answer.now c.args.words c.requires.fits c.requires.exchange

pub returns : goal.returns
returns c = rw c.pass.ensures (rw c.take_answer.ensures (takes_exchange c.args.self.now c.args.i c.requires.found c.args.answer.now c.args.words c.requires.fits c.requires.exchange))
