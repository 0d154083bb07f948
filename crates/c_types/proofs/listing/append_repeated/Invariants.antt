use Rattle.std.proofs.Common.{◌≡◌, ◌++◌, ◌+◌, ◌*◌}
use Rattle.c_types.specs.Layouts.{shifted, repeated}
use Rattle.c_types.proofs.listing.append_repeated.Given as goal

abbrev pub invariant-loop-element : goal.invariant-loop-element
invariant-loop-element l = (l.list.items ≡ l.initial.list.items ++ shifted l.base (repeated l._element l.size l.block)) × (l.at ≡ l.base + l._element * l.size)
