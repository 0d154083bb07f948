use Rattle.std.proofs.Common.{◌∙◌, ap, w64, unsigned_abs}
use Rattle.std.proofs.lemmas.Int.{to_z-of_z}
use Rattle.word_dag.proofs.Grown.{extends_more}
use Rattle.value_nodes.proofs.Reaching.{leaves_stepped}
use Rattle.value_nodes.proofs.pointer_checks.leaves_range.Goals as goal

pub returns-in_err-id-clause-extends : goal.returns-in_err-id-clause-extends
returns-in_err-id-clause-extends c =
    extends_more _ _ _ c.in_ok-offset.ensures.extends (extends_more _ _ _ c.in_ok-negative.ensures.extends (extends_more _ _ _ c.in_ok-count.ensures.extends (extends_more _ _ _ c.in_ok-back.ensures.extends
    (extends_more _ _ _ c.in_ok-within.ensures.extends c.in_err-id.ensures.extends))))

pub returns-clause-extends : goal.returns-clause-extends
returns-clause-extends c =
    extends_more _ _ _ c.in_ok-offset.ensures.extends (extends_more _ _ _ c.in_ok-negative.ensures.extends (extends_more _ _ _ c.in_ok-count.ensures.extends (extends_more _ _ _ c.in_ok-back.ensures.extends
    (extends_more _ _ _ c.in_ok-within.ensures.extends c.in_ok-id.ensures.extends))))

pub returns-clause-made : goal.returns-clause-made
returns-clause-made c =
    leaves_stepped c.args.dag.now _ _ _ _ _ _ c.args.type_ c.args.step _ _ c.args.p c.args.index c.args.size _ _ _ _ _ _ c.nodes.ensures.ordered c.requires.pointer c.requires.index c.requires.size (to_z-of_z w64 c.args.step c.ranges.step) (c.unsigned_abs.ensures.value ∙ ap unsigned_abs (to_z-of_z w64 c.args.step c.ranges.step))
    c.in_ok-offset.ensures.extends c.in_ok-negative.ensures.extends c.in_ok-count.ensures.extends c.in_ok-back.ensures.extends
    c.in_ok-offset.ensures.made c.in_ok-negative.ensures.made c.in_ok-count.ensures.made c.in_ok-back.ensures.made c.in_ok-within.ensures.made c.in_ok-id.ensures.made
