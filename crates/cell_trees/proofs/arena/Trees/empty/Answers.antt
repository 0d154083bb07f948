use Rattle.cell_trees.proofs.Levels.{empty_there, none_set}
use Rattle.cell_trees.proofs.arena.Trees.empty.Goals as goal

pub returns-clause-root : goal.returns-clause-root
returns-clause-root c = empty_there c.args.self.now.forks c.args.self.now.depth

pub returns-clause-cells : goal.returns-clause-cells
returns-clause-cells c = none_set c.args.self.now.forks c.args.self.now.depth
