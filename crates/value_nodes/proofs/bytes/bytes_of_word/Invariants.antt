use Rattle.value_nodes.proofs.Blocks.{Storing}
use Rattle.value_nodes.proofs.bytes.bytes_of_word.Given as goal

abbrev pub invariant-loop-place : goal.invariant-loop-place
invariant-loop-place l = Storing l.fn.dag l.dag l.bytes.items l.a l.place
