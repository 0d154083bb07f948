use Rattle.std.proofs.Common.{◌≡◌}
use Rattle.c_types.specs.Types.{view}
use Rattle.c_types.specs.Layouts.{is_complete}
use Rattle.c_types.proofs.sizes.is_complete.Given as goal

abbrev pub invariant-loop-inner : goal.invariant-loop-inner
invariant-loop-inner l = is_complete l.layouts.done (view l.type_) ≡ is_complete l.layouts.done (view l.inner)
