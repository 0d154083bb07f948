use Rattle.std.proofs.Common.{sym}
use Rattle.cdcl_core.proofs.watches.pair_of.Goals as goal

pub returns-in-len1-up-clause-single : goal.returns-in-len1-up-clause-single
returns-in-len1-up-clause-single c = λ same. c.unlike.ensures.none (sym same)
