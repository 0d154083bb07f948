use Rattle.std.proofs.Common.{ap}
use Rattle.word_dag.proofs.Steps.{widths_of, bits_of, fits_next, widths_next, bits_next, widths_whole, bits_whole}
use Rattle.word_dag.proofs.graph.Dag.words.Goals as goal

pub word_of-word-requires : goal.word_of-word-requires
word_of-word-requires c = fits_next _ _ _ _ _ _ c.deref.ensures.value c.nodes-node-items.ensures.is c.nodes-node-items.ensures.ordered c.loop-node-test.true c.loop-node.invariant.widths_are

pub loop-node-init : goal.loop-node-init
loop-node-init c = record { widths_are = ap widths_of c.in_ok-words.ensures.items; values_are = ap bits_of c.in_ok-words.ensures.items }

pub loop-node-preserved : goal.loop-node-preserved
loop-node-preserved c =
    record {
      widths_are = widths_next _ _ _ _ _ _ _ c.in_ok-push.ensures.items c.deref.ensures.value c.loop-node-test.true c.loop-node.invariant.widths_are c.word_of-word.ensures.width;
      values_are = bits_next _ _ _ _ _ _ _ _ c.in_ok-push.ensures.items c.deref.ensures.value c.loop-node-test.true c.loop-node.invariant.widths_are c.loop-node.invariant.values_are c.word_of-word.ensures.bits;
    }

pub returns-clause-widths : goal.returns-clause-widths
returns-clause-widths c = widths_whole _ _ _ _ c.loop-node-test.false c.nodes-node-items.ensures.is c.loop-node.invariant.widths_are

pub returns-clause-values : goal.returns-clause-values
returns-clause-values c = bits_whole _ _ _ _ _ c.loop-node-test.false c.nodes-node-items.ensures.is c.loop-node.invariant.values_are
