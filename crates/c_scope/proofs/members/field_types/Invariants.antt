use Rattle.std.proofs.Common.{◌≡◌, take}
use Rattle.c_types.specs.Types.{views}
use Rattle.c_scope.specs.Members.{field_types, view_fields}
use Rattle.c_scope.proofs.members.field_types.Given as goal

abbrev pub invariant-loop-field : goal.invariant-loop-field
invariant-loop-field l = views l.types.items ≡ field_types (view_fields (take l.field-index l.fields))
