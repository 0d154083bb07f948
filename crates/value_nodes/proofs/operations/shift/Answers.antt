use Rattle.word_dag.proofs.Grown.{extends_more}
use Rattle.value_nodes.proofs.Shifting.{made_shift}
use Rattle.value_nodes.proofs.operations.shift.Goals as goal

pub returns-clause-made : goal.returns-clause-made
returns-clause-made c =
    made_shift c.args.dag.now _ _ _ _ _ c.args.kind _ _ c.args.a c.args.count _ _ _ _ _ c.width-width.ensures.is c.nodes.ensures.ordered c.requires.a c.requires.count.there
    c.in_ok-small.ensures.extends c.in_ok-low.ensures.extends c.in_ok-shifted.ensures.extends c.in_ok-zero.ensures.extends c.in_ok-small.ensures.made c.in_ok-low.ensures.same
    c.in_ok-shifted.ensures.made c.in_ok-zero.ensures.made c.in_ok-id.ensures.made

pub returns-in_err-id-clause-extends : goal.returns-in_err-id-clause-extends
returns-in_err-id-clause-extends c =
    extends_more _ _ _ c.count_test.ensures.extends (extends_more _ _ _ c.count_word.ensures.extends (extends_more _ _ _ c.make.ensures.extends (extends_more _ _ _ c.make-2.ensures.extends c.chosen.ensures.extends)))

pub returns-clause-extends : goal.returns-clause-extends
returns-clause-extends c =
    extends_more _ _ _ c.count_test.ensures.extends (extends_more _ _ _ c.count_word.ensures.extends (extends_more _ _ _ c.make.ensures.extends (extends_more _ _ _ c.make-2.ensures.extends c.chosen.ensures.extends)))
