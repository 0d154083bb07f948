use Rattle.std.proofs.Common.{◌≡◌, length}
use Rattle.std.specs.List.{list_all}
use Rattle.c_pre.specs.Known.{fates_in, is_below}
use Rattle.c_pre.proofs.noting.are_below.Given as goal

abbrev pub invariant-loop-token : goal.invariant-loop-token
invariant-loop-token l =
    list_all (is_below l.bytes (fates_in l.fates.entries) l.rank) l.tokens ≡ list_all (is_below l.bytes (fates_in l.fates.entries) l.rank) l.rest

abbrev pub decreases-loop-token : goal.decreases-loop-token
decreases-loop-token l = length l.rest
