use Rattle.std.proofs.Common.{◌≡◌, take}
use Rattle.c_tree.specs.Statements.{file_depth, externals_of}
use Rattle.c_tree.proofs.file_levels.externals_depth.Given as goal

abbrev pub invariant-loop-external : goal.invariant-loop-external
invariant-loop-external l = l.levels ≡ file_depth (externals_of (take l.external-index l.externals))
