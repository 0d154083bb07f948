use Rattle.std.proofs.Common.{◌≡◌, take, fold}
use Rattle.properties.proofs.Behind.{by_enumerator}
use Rattle.properties.proofs.declarations.push_enumerators.Given as goal

abbrev pub invariant-loop-enumerator : goal.invariant-loop-enumerator
invariant-loop-enumerator l = l.spots.items ≡ fold by_enumerator l.fn.spots.items (take l.enumerator-index l.enumerators)
