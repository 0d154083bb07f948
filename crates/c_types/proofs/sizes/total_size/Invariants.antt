use Rattle.std.proofs.Common.{◌≤◌, ◌+◌}
use Rattle.c_types.specs.Types.{view}
use Rattle.c_types.specs.Layouts.{most_bytes}
use Rattle.c_types.proofs.Elements.{Counted}
use Rattle.c_types.proofs.sizes.total_size.Given as goal

abbrev pub invariant-loop-inner : goal.invariant-loop-inner
invariant-loop-inner l = Counted l.layouts.done (view l.type_) (view l.inner) l.all l.most × (l.all ≤ most_bytes + 1) × (l.most ≤ most_bytes + 1)
