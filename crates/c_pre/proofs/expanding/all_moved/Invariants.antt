use Rattle.std.proofs.Common.{◌≡◌, map, take}
use Rattle.c_pre.specs.Headers.{moved}
use Rattle.c_pre.proofs.expanding.all_moved.Given as goal

abbrev pub invariant-loop-token : goal.invariant-loop-token
invariant-loop-token l = l.all.items ≡ map (moved l.by) (take l.token-index l.tokens)
