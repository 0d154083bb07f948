use Rattle.std.proofs.Common.{◌≡◌, take}
use Rattle.word_dag.specs.Meaning.{widths, values, valuation_of}
use Rattle.word_dag.proofs.Steps.{widths_of, bits_of}
use Rattle.word_dag.proofs.graph.Dag.words.Given as goal

abbrev pub invariant-loop-node : goal.invariant-loop-node
invariant-loop-node l =
    record {
      widths_are : widths_of l.words.items ≡ widths (take l.node-index l.node-items);
      values_are : bits_of l.words.items ≡ values (valuation_of l.valuation) (take l.node-index l.node-items);
    }
