use Rattle.std.proofs.Common.{◌≡◌, ◌≤◌, drop}
use Rattle.std.specs.Prelude.{max, min}
use Rattle.core_tree.specs.Trees.{view_literals}
use Rattle.goto_unwind.specs.Counts.{largest, sizes_of_literals}
use Rattle.goto_unwind.proofs.objects.literal_bytes.Given as goal

abbrev pub invariant-loop-literal : goal.invariant-loop-literal
invariant-loop-literal l = (l.most ≤ 65537) × (min (max l.most (largest (sizes_of_literals (view_literals (drop l.literal-index l.literals))))) 65537 ≡ min (largest (sizes_of_literals (view_literals l.literals))) 65537)
