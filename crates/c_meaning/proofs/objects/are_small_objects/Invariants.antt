use Rattle.std.proofs.Common.{◌≡◌, drop}
use Rattle.core_tree.specs.Trees.{view_statics}
use Rattle.c_meaning.specs.Source.{are_small_objects}
use Rattle.c_meaning.proofs.objects.are_small_objects.Given as goal

abbrev pub invariant-loop-object : goal.invariant-loop-object
invariant-loop-object l = are_small_objects (view_statics (drop l.object-index l.objects)) ≡ are_small_objects (view_statics l.objects)
