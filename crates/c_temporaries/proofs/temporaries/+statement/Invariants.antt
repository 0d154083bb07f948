use Rattle.std.proofs.Common.{◌≡◌, drop}
use Rattle.core_tree.specs.Trees.{items_of}
use Rattle.c_temporaries.specs.Temporaries.{items_temporaries}
use Rattle.c_temporaries.proofs.temporaries.+statement.Given as goal

abbrev pub invariant-items_temporaries-loop-place : goal.invariant-items_temporaries-loop-place
invariant-items_temporaries-loop-place l = l.temporaries ≡ items_temporaries l.variables (items_of (drop l.place l.items))
