use Rattle.std.proofs.Common.{◌≡◌, ◌≤◌, true, length, drop, Ok}
use Rattle.c_types.specs.Types.{view}
use Rattle.c_types.specs.Layouts.{is_complete, is_sized, size_of}
use Rattle.c_scope.specs.Types.{arrays_of}
use Rattle.c_scope.proofs.declarators.arrays_of.Given as goal

abbrev pub invariant-loop-left : goal.invariant-loop-left
invariant-loop-left l = (arrays_of l.layouts.done (view l.fn.element) (drop l.left l.lengths) ≡ Ok (view l.type_)) × (l.left ≤ length l.lengths)
    × (is_complete l.layouts.done (view l.type_) ≡ true) × (is_sized l.layouts.done (view l.type_) ≡ true) × (l.size ≡ size_of l.layouts.done (view l.type_))

abbrev pub decreases-loop-left : goal.decreases-loop-left
decreases-loop-left l = l.left
