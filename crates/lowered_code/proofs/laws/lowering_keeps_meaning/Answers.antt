use Rattle.lowered_code.proofs.SameThread.{same_thread}
use Rattle.lowered_code.proofs.laws.lowering_keeps_meaning.Goals as goal

pub returns : goal.returns
returns c = same_thread
