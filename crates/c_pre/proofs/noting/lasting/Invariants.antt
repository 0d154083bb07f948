use Rattle.std.proofs.Common.{List, ◌++◌, length}
use Rattle.c_token.specs.declared.token.Token.{Token}
use Rattle.c_pre.specs.Known.{fates_in, Thins}
use Rattle.c_pre.proofs.noting.lasting.Given as goal

abbrev pub invariant-loop-token : goal.invariant-loop-token
invariant-loop-token l = (tail : List Token) → Thins l.bytes (fates_in l.fates.entries) tail l.rest → Thins l.bytes (fates_in l.fates.entries) (l.all.items ++ tail) l.tokens

abbrev pub decreases-loop-token : goal.decreases-loop-token
decreases-loop-token l = length l.rest
