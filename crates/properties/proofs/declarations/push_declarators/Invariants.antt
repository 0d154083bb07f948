use Rattle.std.proofs.Common.{◌≡◌, take, fold}
use Rattle.properties.proofs.Behind.{by_declarator}
use Rattle.properties.proofs.declarations.push_declarators.Given as goal

abbrev pub invariant-loop-declarator : goal.invariant-loop-declarator
invariant-loop-declarator l = l.spots.items ≡ fold by_declarator l.fn.spots.items (take l.declarator-index l.declarators)
