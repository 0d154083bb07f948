use Rattle.interleave.proofs.Alike as alike
use Rattle.interleave.proofs.law.same_turns.Goals as goal

pub returns : goal.returns
returns c = alike.same_systems
