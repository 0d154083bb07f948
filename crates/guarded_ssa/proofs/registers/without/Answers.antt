use Rattle.guarded_ssa.proofs.Meeting.{dropped_tree}
use Rattle.guarded_ssa.proofs.registers.without.Goals as goal

pub returns-then-is_some-clause-tree : goal.returns-then-is_some-clause-tree
returns-then-is_some-clause-tree c =
    dropped_tree c.args.dag.now c.args.trees.now c.without.new.self c.args.plan.now.types.items c.args.root c.in_ok-rest.rest c.args.cell c.without.ensures.keeps c.in_ok-rest.ensures.cells c.requires c.in_ok-rest.ensures.root
