use Rattle.rewritten_nodes.proofs.Standing.{images_more}
use Rattle.rewritten_nodes.proofs.known.Known.images.Goals as goal

pub loop-at-preserved : goal.loop-at-preserved
loop-at-preserved c = images_more _ _ c.args.first c.loop-at.at _ _ _ c.deref.ensures.value c.loop-at.invariant c.image-other.ensures c.in_ok-push.ensures.items
