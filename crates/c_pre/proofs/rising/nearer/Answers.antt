use Rattle.c_pre.proofs.Trees.{jump_behind, parent_behind, parent_high}
use Rattle.c_pre.proofs.rising.nearer.Goals as goal

pub returns-then-link_at-depth-clause-behind : goal.returns-then-link_at-depth-clause-behind
returns-then-link_at-depth-clause-behind c = jump_behind c.args.nodes.now c.args.node c.link_at-link.result c.requires.forest c.requires.within c.link_at-link.ensures

pub returns-else-link_at-depth-clause-behind : goal.returns-else-link_at-depth-clause-behind
returns-else-link_at-depth-clause-behind c = parent_behind c.args.nodes.now c.args.node c.link_at-link.result c.requires.forest c.requires.within c.link_at-link.ensures

pub returns-else-link_at-depth-clause-high : goal.returns-else-link_at-depth-clause-high
returns-else-link_at-depth-clause-high c = parent_high c.args.nodes.now c.args.node c.args.depth c.link_at-link.result c.requires.forest c.requires.within c.link_at-link.ensures c.requires.deep
