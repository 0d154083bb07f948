use Rattle.std.proofs.Common.{◌≡◌, ◌+◌, ◌*◌, length, drop}
use Rattle.c_tree.specs.Declarations.{view_initializer, initials_of, initial_depth, initials_depth}
use Rattle.c_types.specs.Types.{view as type_view}
use Rattle.c_elab_type.specs.Initializers.{typed_initials}
use Rattle.c_elab_type.proofs.Values.{views, items_first}
use Rattle.c_elab_type.proofs.initializers.+initializers.Given as goal

abbrev pub invariant-typed_initials-loop-initializer : goal.invariant-typed_initials-loop-initializer
invariant-typed_initials-loop-initializer l =
    items_first (views l.items.items) (typed_initials l.object_entry l.scope (type_view l.type_) (length l.items.items) (initials_of (drop l.initializer-index l.initializers)))
    ≡ typed_initials l.object_entry l.scope (type_view l.type_) 0 (initials_of l.initializers)

abbrev pub decreases-typed_initial : goal.decreases-typed_initial
decreases-typed_initial l = 3 * initial_depth (view_initializer l.initializer.now)

abbrev pub decreases-typed_item : goal.decreases-typed_item
decreases-typed_item l = 3 * initial_depth (view_initializer l.initializer.now) + 1

abbrev pub decreases-typed_initials : goal.decreases-typed_initials
decreases-typed_initials l = 3 * initials_depth (initials_of l.initializers.now) + 2
