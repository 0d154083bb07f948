use Rattle.std.proofs.Common.{◌≡◌, length}
use Rattle.c_pre.specs.Macros.{same_spelling}
use Rattle.c_pre.proofs.macros.same_spelling.Given as goal

abbrev pub invariant-loop-token : goal.invariant-loop-token
invariant-loop-token l = same_spelling l.bytes l.left l.right ≡ same_spelling l.bytes l.a l.b

abbrev pub decreases-loop-token : goal.decreases-loop-token
decreases-loop-token l = length l.left
