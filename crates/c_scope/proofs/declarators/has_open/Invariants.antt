use Rattle.std.proofs.Common.{◌≡◌, drop}
use Rattle.c_scope.specs.Types.{has_open}
use Rattle.c_scope.proofs.declarators.has_open.Given as goal

abbrev pub invariant-loop-length : goal.invariant-loop-length
invariant-loop-length l = has_open (drop l.length-index l.lengths) ≡ has_open l.lengths
