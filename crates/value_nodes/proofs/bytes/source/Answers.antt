use Rattle.std.proofs.Common.{length, refl, arith}
use Rattle.std.proofs.lemmas.List.{get_or_default}
use Rattle.value_nodes.proofs.Blocks.{cuts_more}
use Rattle.value_nodes.proofs.bytes.source.Goals as goal

pub loop-place-preserved : goal.loop-place-preserved
loop-place-preserved c =
    cuts_more c.args.dag.now c.in-Cut-default-default-eq8.word _ c.in-Cut-default-default-eq8.low c.loop-place.place (length c.args.bytes.now) c.args.bytes.now (omega (arith, c.if-low-bytes.false, c.width.ensures.is)) refl c.loop-place-test.true
    (get_or_default c.args.bytes.now c.loop-place.place _ _ (omega arith)) (c.is_cut.ensures c.if-not-is_cut.false) c.loop-place.invariant
