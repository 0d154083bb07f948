use Rattle.std.proofs.Common.{◌≡◌, drop}
use Rattle.core_tree.specs.Trees.{parts_of, arguments_of}
use Rattle.c_temporaries.specs.Temporaries.{parts_temporaries, arguments_temporaries}
use Rattle.c_temporaries.proofs.temporaries.+expression.Given as goal

abbrev pub invariant-parts_temporaries-loop-place : goal.invariant-parts_temporaries-loop-place
invariant-parts_temporaries-loop-place l = l.temporaries ≡ parts_temporaries l.variables (parts_of (drop l.place l.parts))

abbrev pub invariant-arguments_temporaries-loop-place : goal.invariant-arguments_temporaries-loop-place
invariant-arguments_temporaries-loop-place l = l.temporaries ≡ arguments_temporaries l.variables (arguments_of (drop l.place l.arguments))
