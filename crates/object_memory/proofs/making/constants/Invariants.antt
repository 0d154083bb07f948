use Rattle.object_memory.proofs.Starts.{Constants}
use Rattle.object_memory.proofs.making.constants.Given as goal

abbrev pub invariant-loop-i : goal.invariant-loop-i
invariant-loop-i l = Constants l.fn.dag l.dag l.bytes l.ids.items l.i
