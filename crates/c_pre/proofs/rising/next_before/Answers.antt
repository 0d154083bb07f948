use Rattle.c_pre.proofs.Trees.{parent_behind}
use Rattle.c_pre.proofs.rising.next_before.Goals as goal

pub returns-then-not-branch-2-clause-found : goal.returns-then-not-branch-2-clause-found
returns-then-not-branch-2-clause-found c = (
  parent_behind c.args.nodes.now c.args.node c.link_at-link.result c.requires.forest c.requires.node c.link_at-link.ensures,
  c.in_ok-is_behind-2.ensures.no c.if-not-branch-2.true,
)
