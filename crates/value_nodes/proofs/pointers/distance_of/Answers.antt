use Rattle.std.proofs.Common.{◌∙◌, ap, w64}
use Rattle.std.proofs.lemmas.Int.{to_z-of_z}
use Rattle.words.specs.Operators.{wrapped}
use Rattle.word_dag.proofs.Grown.{extends_more}
use Rattle.value_nodes.proofs.Halves.{made_distance}
use Rattle.value_nodes.proofs.pointers.distance_of.Goals as goal

pub returns-in_err-id-clause-extends : goal.returns-in_err-id-clause-extends
returns-in_err-id-clause-extends c = extends_more _ _ _ c.converted.ensures.extends (extends_more _ _ _ c.make.ensures.extends c.make-2.ensures.extends)

pub returns-clause-extends : goal.returns-clause-extends
returns-clause-extends c = extends_more _ _ _ c.converted.ensures.extends (extends_more _ _ _ c.make.ensures.extends c.make-2.ensures.extends)

pub returns-clause-made : goal.returns-clause-made
returns-clause-made c =
    made_distance c.args.dag.now _ _ _ c.args.type_ c.args.index _ _ _ _ c.args.step c.make.ensures.extends c.in_ok-low.ensures.made c.in_ok-factor.ensures.made (c.low_step.ensures ∙ ap (wrapped 32) (to_z-of_z w64 c.args.step c.ranges.step)) c.in_ok-id.ensures.made
