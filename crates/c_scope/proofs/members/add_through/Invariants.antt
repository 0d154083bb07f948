use Rattle.std.proofs.Common.{◌≡◌, drop, map}
use Rattle.c_scope.specs.Members.{through, with_members, view_ways}
use Rattle.c_scope.proofs.members.add_through.Given as goal

abbrev pub invariant-loop-place : goal.invariant-loop-place
invariant-loop-place l = with_members (view_ways l.ways.entries) (map (through l.number l.constant) (view_ways (drop l.place l.inner.ways.entries)))
    ≡ with_members (view_ways l.initial.ways.entries) (map (through l.number l.constant) (view_ways l.inner.ways.entries))
