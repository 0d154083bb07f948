use Rattle.std.proofs.Common.{◌-◌}
use Rattle.byte_ops.proofs.Tested.{Passing}
use Rattle.byte_ops.proofs.places.tested_offset.Given as goal

abbrev pub invariant-places : goal.invariant-places
invariant-places l = Passing l.fn.dag l.dag l.offset l.size l.step l.tests.items l.at

abbrev pub decreases-places : goal.decreases-places
decreases-places l = l.size - l.at
