use Rattle.goto_prog.specs.ProgramViews.{bounded_by}
use Rattle.goto_prog.proofs.WalkAnswers.{shape_of_exchange, takes_exchange}
use Rattle.goto_prog.proofs.activation.Activation.receive_answer.Goals as goal

pub take_answer-requires-clause-shape : goal.take_answer-requires-clause-shape
take_answer-requires-clause-shape c = shape_of_exchange (bounded_by c.args.program.now) c.args.self.now c.args.i c.requires.found c.args.answer.now c.args.words c.requires.allowed c.requires.exchange

pub returns : goal.returns
returns c = rw c.advance.ensures (rw c.take_answer.ensures (takes_exchange (bounded_by c.args.program.now) c.args.self.now c.args.i c.requires.found c.args.answer.now c.args.words c.requires.allowed c.requires.exchange))
