use Rattle.cell_trees.proofs.arena.Trees.+filled.Given as goal

abbrev pub decreases-filled : goal.decreases-filled
decreases-filled l = l.depth
