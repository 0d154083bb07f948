use Rattle.std.proofs.Common.{◌≡◌, ◌≤◌, take}
use Rattle.c_scope.specs.Types.{count}
use Rattle.c_scope.proofs.type_words.count.Given as goal

abbrev pub invariant-loop-other : goal.invariant-loop-other
invariant-loop-other l = (l.found ≡ count l.word (take l.other-index l.words)) × (l.found ≤ l.other-index)
