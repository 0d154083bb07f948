use Rattle.std.proofs.Common.{◌≡◌, drop}
use Rattle.core_tree.specs.Trees.{view_literals}
use Rattle.c_meaning.specs.Source.{are_small_literals}
use Rattle.c_meaning.proofs.objects.are_small_literals.Given as goal

abbrev pub invariant-loop-literal : goal.invariant-loop-literal
invariant-loop-literal l = are_small_literals (view_literals (drop l.literal-index l.literals)) ≡ are_small_literals (view_literals l.literals)
