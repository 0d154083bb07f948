use Rattle.std.proofs.Common.{◌≡◌, [], drop}
use Rattle.c_scope.specs.Members.{named_from, view_fields, view_tables, view_ways}
use Rattle.c_scope.proofs.members.all_ways.Given as goal

abbrev pub invariant-loop-number : goal.invariant-loop-number
invariant-loop-number l = named_from (view_tables l.tables) (view_ways l.ways.entries) l.number (view_fields (drop l.number l.fields)) ≡ named_from (view_tables l.tables) [] 0 (view_fields l.fields)
