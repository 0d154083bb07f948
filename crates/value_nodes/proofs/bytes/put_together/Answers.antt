use Rattle.std.proofs.Common.{arith}
use Rattle.std.proofs.lemmas.List.{get_or_default}
use Rattle.value_nodes.proofs.Blocks.{joining_more}
use Rattle.value_nodes.proofs.bytes.put_together.Goals as goal

pub loop-place-preserved : goal.loop-place-preserved
loop-place-preserved c =
    joining_more c.args.dag.now c.loop-place.dag _ c.args.bytes.now c.loop-place.word _ _ c.loop-place.place c.requires.bytes c.loop-place.invariant (omega arith)
    (get_or_default c.args.bytes.now c.loop-place.place _ _ (omega arith)) c.in_ok-word.ensures.extends c.in_ok-word.ensures.made
