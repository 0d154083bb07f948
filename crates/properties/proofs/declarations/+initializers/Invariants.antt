use Rattle.std.proofs.Common.{◌≡◌, ◌+◌, ◌*◌, take, fold}
use Rattle.c_tree.specs.Declarations.{view_initializer, initials_of, initial_depth, initials_depth}
use Rattle.properties.proofs.Behind.{by_initializer}
use Rattle.properties.proofs.declarations.+initializers.Given as goal

abbrev pub invariant-push_initials-loop-initializer : goal.invariant-push_initials-loop-initializer
invariant-push_initials-loop-initializer l = l.spots.items ≡ fold by_initializer l.fn.spots.items (take l.initializer-index l.initializers)

abbrev pub decreases-push_initial : goal.decreases-push_initial
decreases-push_initial l = 2 * initial_depth (view_initializer l.initializer.now)

abbrev pub decreases-push_initials : goal.decreases-push_initials
decreases-push_initials l = 2 * initials_depth (initials_of l.initializers.now) + 1
