use Rattle.std.proofs.Common.{◌≡◌, drop, length}
use Rattle.std.specs.List.{list_all}
use Rattle.core_tree.specs.Trees.{view_statics}
use Rattle.core_tree.specs.Typed.{is_static}
use Rattle.core_check.proofs.files.are_static.Given as goal

abbrev pub invariant-loop-place : goal.invariant-loop-place
invariant-loop-place l = l.all ≡ list_all (is_static (length l.objects) l.literals) (view_statics (drop l.place l.objects))
