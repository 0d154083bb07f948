use Rattle.std.proofs.Common.{◌≡◌, length}
use Rattle.word_dag.specs.Growth.{Extends}
use Rattle.value_nodes.specs.Values.{AreBytes}
use Rattle.graph_tests.proofs.byte_tests.block_of.Given as goal

abbrev pub invariant-loop-i : goal.invariant-loop-i
invariant-loop-i l = record { extends : Extends l.fn.dag l.dag; bytes : AreBytes l.dag l.ids.items; size : length l.ids.items ≡ l.i }
