use Rattle.std.proofs.Common.{◌≡◌, drop}
use Rattle.c_scope.specs.Members.{has_constant, view_fields, view_tables}
use Rattle.c_scope.proofs.members.has_constant.Given as goal

abbrev pub invariant-loop-field : goal.invariant-loop-field
invariant-loop-field l = has_constant (view_tables l.tables) (view_fields (drop l.field-index l.fields)) ≡ has_constant (view_tables l.tables) (view_fields l.fields)
