use Rattle.std.proofs.Common.{◌≡◌, ◌+◌, ◌*◌, take}
use Rattle.c_tree.specs.Declarations.{view_initializer, initials_of, initial_depth, initials_depth}
use Rattle.c_tree.proofs.file_levels.+initializers.Given as goal

abbrev pub invariant-initials_depth-loop-initializer : goal.invariant-initials_depth-loop-initializer
invariant-initials_depth-loop-initializer l = l.levels ≡ initials_depth (initials_of (take l.initializer-index l.initializers))

abbrev pub decreases-initial_depth : goal.decreases-initial_depth
decreases-initial_depth l = 2 * initial_depth (view_initializer l.initializer.now)

abbrev pub decreases-initials_depth : goal.decreases-initials_depth
decreases-initials_depth l = 2 * initials_depth (initials_of l.initializers.now) + 1
