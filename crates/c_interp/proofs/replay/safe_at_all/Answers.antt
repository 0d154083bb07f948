use Rattle.c_interp.proofs.Unlimited.{safe_at_all}
use Rattle.c_interp.proofs.replay.safe_at_all.Goals as goal

pub returns : goal.returns
returns c = safe_at_all
