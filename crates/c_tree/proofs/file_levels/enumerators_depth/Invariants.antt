use Rattle.std.proofs.Common.{◌≡◌, take, map}
use Rattle.c_tree.specs.Declarations.{view_enumerator, enumerators_depth}
use Rattle.c_tree.proofs.file_levels.enumerators_depth.Given as goal

abbrev pub invariant-loop-enumerator : goal.invariant-loop-enumerator
invariant-loop-enumerator l = l.levels ≡ enumerators_depth (map view_enumerator (take l.enumerator-index l.enumerators))
