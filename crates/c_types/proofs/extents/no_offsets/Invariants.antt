use Rattle.std.proofs.Common.{◌≡◌, replicate}
use Rattle.c_types.proofs.extents.no_offsets.Given as goal

abbrev pub invariant-loop-member : goal.invariant-loop-member
invariant-loop-member l = l.offsets.items ≡ replicate l._member-index 0
