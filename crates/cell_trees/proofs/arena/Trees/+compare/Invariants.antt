use Rattle.cell_trees.proofs.arena.Trees.+compare.Given as goal

abbrev pub decreases-compare : goal.decreases-compare
decreases-compare l = l.depth
