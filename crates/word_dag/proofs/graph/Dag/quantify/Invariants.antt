use Rattle.std.proofs.Common.{take}
use Rattle.word_dag.proofs.Copies.{Copies}
use Rattle.word_dag.proofs.graph.Dag.quantify.Given as goal

abbrev pub invariant-loop-id : goal.invariant-loop-id
invariant-loop-id l = Copies l.fn.self l.self (take l.id-index l.ids)
