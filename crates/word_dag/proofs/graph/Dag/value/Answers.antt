use Rattle.std.proofs.Common.{arith}
use Rattle.word_dag.proofs.Steps.{words_are_there, word_read}
use Rattle.word_dag.proofs.graph.Dag.value.Goals as goal

pub index-requires : goal.index-requires
index-requires c = omega (arith, words_are_there c.in_ok-words.words.items c.args.self.now c.in_ok-words.ensures.widths, c.requires)

pub returns : goal.returns
returns c = word_read _ _ _ _ _ c.in_ok-words.ensures.widths c.in_ok-words.ensures.values c.requires c.index.ensures
