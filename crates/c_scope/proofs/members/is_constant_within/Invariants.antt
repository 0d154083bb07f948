use Rattle.std.proofs.Common.{◌≡◌}
use Rattle.c_types.specs.Types.{view}
use Rattle.c_scope.specs.Members.{members_in, view_tables}
use Rattle.c_scope.proofs.members.is_constant_within.Given as goal

abbrev pub invariant-loop-inner : goal.invariant-loop-inner
invariant-loop-inner l = (members_in (view_tables l.tables) (view l.type_)).constant ≡ (members_in (view_tables l.tables) (view l.inner)).constant
