use Rattle.std.proofs.Common.{arith}
use Rattle.properties.proofs.Numbering.{one_spot}
use Rattle.properties.proofs.listing.push_spots.Goals as goal

pub loop-spot-preserved : goal.loop-spot-preserved
loop-spot-preserved c =
    one_spot c.args.name.now _ _ _ _ _ c.args.spots.now c.loop-spot.spot-index _ (omega arith) c.loop-spot.invariant c.in_ok-number.ensures.listed c.in_ok-number.ensures.next
