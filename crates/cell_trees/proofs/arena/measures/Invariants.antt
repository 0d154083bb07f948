use Rattle.std.proofs.Common.{◌≡◌, ◌-◌, ◌<◌}
use Rattle.cell_trees.specs.Trees.{span}
use Rattle.cell_trees.proofs.arena.measures.Given as goal

abbrev pub invariant-loop-size : goal.invariant-loop-size
invariant-loop-size l = record {
  size : l.size ≡ span l.depth;
  deep : l.depth < l.size;
}

abbrev pub decreases-loop-size : goal.decreases-loop-size
decreases-loop-size l = l.cells - l.size
