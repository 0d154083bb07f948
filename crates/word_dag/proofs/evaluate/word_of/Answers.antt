use Rattle.word_dag.proofs.Places.{words_tested}
use Rattle.word_dag.proofs.evaluate.word_of.Goals as goal

pub returns-in-Quantify-clause-bits : goal.returns-in-Quantify-clause-bits
returns-in-Quantify-clause-bits c = words_tested _ c.args.words.now c.args.node c.in-Quantify.quantifier c.in-Quantify.first c.in-Quantify.count _ _ c.in-Quantify.is c.requires c.quantified.ensures c.bit-in-Quantify.ensures
