use Rattle.std.proofs.Common.{◌≡◌, length, reverse}
use Rattle.core_tree.specs.Trees.{view_functions}
use Rattle.c_elab_flow.specs.Files.{with_bodies}
use Rattle.c_elab_flow.specs.Held.{view_definitions}
use Rattle.c_elab_flow.proofs.files.give_bodies.Given as goal

abbrev pub invariant-definitions : goal.invariant-definitions
invariant-definitions l =
    with_bodies (view_functions l.functions.items) (view_definitions (reverse l.definitions.items)) ≡ with_bodies (view_functions l.initial.functions.items) (view_definitions (reverse l.initial.definitions.items))

abbrev pub decreases-definitions : goal.decreases-definitions
decreases-definitions l = length l.definitions.items
