use Rattle.c_interp.proofs.Larger.{safe_within_more}
use Rattle.c_interp.proofs.replay.safe_within_more.Goals as goal

pub returns : goal.returns
returns c = safe_within_more
