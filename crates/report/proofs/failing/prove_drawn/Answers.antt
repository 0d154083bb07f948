use Rattle.std.proofs.Common.{arith}
use Rattle.report.proofs.Drawing.{drawn_fit}
use Rattle.report.proofs.failing.prove_drawn.Goals as goal

pub returns : goal.returns
returns c = drawn_fit c.args.thread c.args.words.now (omega arith) c.type_inv.words
