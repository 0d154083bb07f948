use Rattle.value_nodes.specs.Bytes.{AreCuts}
use Rattle.value_nodes.proofs.bytes.source.Given as goal

abbrev pub invariant-loop-place : goal.invariant-loop-place
invariant-loop-place l = AreCuts l.dag l.word l.low l.bytes l.place
