use Rattle.std.proofs.Common.{length}
use Rattle.c_pre.proofs.planning.only_lasting.Given as goal

abbrev pub decreases-loop-token : goal.decreases-loop-token
decreases-loop-token l = length l.rest
