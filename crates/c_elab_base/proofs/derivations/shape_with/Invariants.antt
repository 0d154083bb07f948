use Rattle.std.proofs.Common.{◌≡◌, ◌≤◌, length, drop, Ok}
use Rattle.c_elab_base.specs.Derivations.{derived, view_shape, view_deriveds}
use Rattle.c_elab_base.proofs.derivations.shape_with.Given as goal

abbrev pub invariant-loop-left : goal.invariant-loop-left
invariant-loop-left l = record {
  within : l.left ≤ length l.suffixes;
  made : derived l.layouts.done l.constant (view_shape l.initial.shape) (view_deriveds (drop l.left l.suffixes)) ≡ Ok (view_shape l.shape);
}

abbrev pub decreases-loop-left : goal.decreases-loop-left
decreases-loop-left l = l.left
