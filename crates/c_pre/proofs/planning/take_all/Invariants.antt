use Rattle.std.proofs.Common.{length}
use Rattle.c_pre.proofs.planning.take_all.Given as goal

abbrev pub decreases-loop-token : goal.decreases-loop-token
decreases-loop-token l = length l.rest
