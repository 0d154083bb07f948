use Rattle.std.proofs.Common.{map, take}
use Rattle.report.specs.Properties.{told_of}
use Rattle.properties.proofs.Numbering.{Listed}
use Rattle.properties.proofs.listing.push_spots.Given as goal

abbrev pub invariant-loop-spot : goal.invariant-loop-spot
invariant-loop-spot l = Listed l.name (map told_of l.fn.properties.items) (map told_of l.properties.items) l.number (take l.spot-index l.spots)
