use Rattle.std.proofs.Common.{◌≡◌, take}
use Rattle.c_temporaries.specs.Temporaries.{greater}
use Rattle.c_temporaries.proofs.temporaries.raise.Given as goal

abbrev pub invariant-loop-place : goal.invariant-loop-place
invariant-loop-place l = l.sizes ≡ greater l.initial.sizes (take l.place l.others)
