use Rattle.std.proofs.Common.{◌≡◌, drop}
use Rattle.c_types.specs.Layouts.{are_complete}
use Rattle.c_scope.specs.Members.{field_types, view_fields}
use Rattle.c_scope.proofs.members.have_complete_types.Given as goal

abbrev pub invariant-loop-field : goal.invariant-loop-field
invariant-loop-field l = are_complete l.layouts.done (field_types (view_fields (drop l.field-index l.fields))) ≡ are_complete l.layouts.done (field_types (view_fields l.fields))
