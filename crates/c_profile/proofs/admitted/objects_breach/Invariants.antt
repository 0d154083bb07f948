use Rattle.std.proofs.Common.{◌≡◌, drop}
use Rattle.core_tree.specs.Trees.{view_statics}
use Rattle.c_profile.specs.Rules.{objects_breach}
use Rattle.c_profile.proofs.admitted.objects_breach.Given as goal

abbrev pub invariant-loop-place : goal.invariant-loop-place
invariant-loop-place l = l.first ≡ objects_breach (view_statics (drop l.place l.objects))
