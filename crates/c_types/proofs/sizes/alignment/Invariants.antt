use Rattle.std.proofs.Common.{◌≡◌}
use Rattle.c_types.specs.Types.{view}
use Rattle.c_types.specs.Layouts.{alignment_of}
use Rattle.c_types.proofs.sizes.alignment.Given as goal

abbrev pub invariant-loop-inner : goal.invariant-loop-inner
invariant-loop-inner l = alignment_of l.layouts.done (view l.type_) ≡ alignment_of l.layouts.done (view l.inner)
