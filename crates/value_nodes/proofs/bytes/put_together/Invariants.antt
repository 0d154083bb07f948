use Rattle.value_nodes.proofs.Blocks.{Joining}
use Rattle.value_nodes.proofs.bytes.put_together.Given as goal

abbrev pub invariant-loop-place : goal.invariant-loop-place
invariant-loop-place l = Joining l.fn.dag l.dag l.bytes l.word l.place
