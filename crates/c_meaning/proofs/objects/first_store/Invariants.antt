use Rattle.std.proofs.Common.{◌≡◌, ◌+◌, ◌++◌, take, map, length}
use Rattle.core_tree.specs.Trees.{view_statics, view_literals}
use Rattle.c_meaning.specs.Source.{first_object, literal_object, numbered}
use Rattle.c_meaning.proofs.objects.first_store.Given as goal

abbrev pub invariant-loop-object : goal.invariant-loop-object
invariant-loop-object l =
    (l.number ≡ l.object-index)
    × (l.store ≡ numbered 1 (map (first_object (length l.objects + 1)) (view_statics (take l.object-index l.objects))))

abbrev pub invariant-loop-literal : goal.invariant-loop-literal
invariant-loop-literal l =
    (l.number ≡ length l.file.objects + l.literal-index)
    × (l.store ≡ numbered 1 (map (first_object (length l.file.objects + 1)) (view_statics l.file.objects) ++ map literal_object (view_literals (take l.literal-index l.literals))))
