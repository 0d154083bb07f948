use Rattle.rewritten_nodes.proofs.Standing.{agrees_stays}
use Rattle.mem_seq.proofs.Learning.{word_learned}
use Rattle.mem_seq.proofs.replacing.learn_word.Goals as goal

pub returns-in_ok-insert-in-Variable-clause-agrees : goal.returns-in_ok-insert-in-Variable-clause-agrees
returns-in_ok-insert-in-Variable-clause-agrees c = λ v given agrees.
    c.in_ok-insert-in-Variable.ensures.agrees v
    (word_learned c.args.dag.now c.chosen.new.dag c.args.guard c.args.word c.args.held c.in_ok-id-in-Variable.id c.node.result c.in-Variable.variable c.in-Variable.field-1 c.nodes.ensures.ordered c.requires.word c.node.ensures c.in-Variable.is c.requires.held c.in_ok-id-in-Variable.ensures.made v given)
    (agrees_stays v c.args.dag.now c.chosen.new.dag c.args.known.now c.chosen.ensures.extends c.requires.known agrees)
