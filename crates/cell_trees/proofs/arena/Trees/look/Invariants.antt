use Rattle.std.proofs.Common.{◌≡◌}
use Rattle.cell_trees.specs.Trees.{span, looked, looked_at}
use Rattle.cell_trees.proofs.arena.Trees.look.Given as goal

abbrev pub invariant-loop-depth : goal.invariant-loop-depth
invariant-loop-depth l = record {
  size : l.size ≡ span l.depth;
  same : looked_at l.self.forks l.depth l.here l.left ≡ looked l.self l.fn.root l.fn.cell;
}

abbrev pub decreases-loop-depth : goal.decreases-loop-depth
decreases-loop-depth l = l.depth
