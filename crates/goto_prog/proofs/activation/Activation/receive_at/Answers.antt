use Rattle.goto_prog.proofs.Exchanges.{acts_exchange}
use Rattle.goto_prog.proofs.activation.Activation.receive_at.Goals as goal

pub receive_answer-requires-clause-exchange : goal.receive_answer-requires-clause-exchange
receive_answer-requires-clause-exchange c = acts_exchange c.args.words c.args.i.operation c.args.self.now.working.memory c.in_default.not-Fill c.in_default.not-Exit c.requires.acting
