use Rattle.std.proofs.Common.{◌≡◌, take}
use Rattle.c_tree.specs.Declarations.{declarators_depth, declarators_of}
use Rattle.c_tree.proofs.file_levels.declarators_depth.Given as goal

abbrev pub invariant-loop-declarator : goal.invariant-loop-declarator
invariant-loop-declarator l = l.levels ≡ declarators_depth (declarators_of (take l.declarator-index l.declarators))
