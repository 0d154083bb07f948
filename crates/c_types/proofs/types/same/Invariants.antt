use Rattle.std.proofs.Common.{◌≡◌, ◌↔◌}
use Rattle.c_types.specs.Types.{view}
use Rattle.c_types.proofs.types.same.Given as goal

abbrev pub invariant-loop-left : goal.invariant-loop-left
invariant-loop-left l = (view l.left ≡ view l.right) ↔ (view l.a ≡ view l.b)
