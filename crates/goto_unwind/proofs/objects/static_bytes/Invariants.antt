use Rattle.std.proofs.Common.{◌≡◌, drop}
use Rattle.std.specs.Prelude.{max}
use Rattle.core_tree.specs.Trees.{view_statics}
use Rattle.core_tree.specs.Typed.{sizes_of_objects}
use Rattle.goto_unwind.specs.Counts.{largest}
use Rattle.goto_unwind.proofs.objects.static_bytes.Given as goal

abbrev pub invariant-loop-object : goal.invariant-loop-object
invariant-loop-object l = max l.most (largest (sizes_of_objects (view_statics (drop l.object-index l.objects)))) ≡ largest (sizes_of_objects (view_statics l.objects))
